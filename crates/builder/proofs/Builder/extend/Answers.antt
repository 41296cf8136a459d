-- `extend` meets its contract: a full fill is laid.
use Prim.Native.Nat.{ℕ}
use mathlib.Core.Path.{sym, ap, ◌∙◌}
use native.Mathlib.Omega.{arith}
use Rattle.builder.specs.Steps.{first_points, fill_places, flush_places, flush_bytes}
use Rattle.builder.proofs.Entries.{with_places}
use Rattle.builder.proofs.Fills.{stays-few, stays-full, extend-stays, extend-flushes}
use Rattle.builder.proofs.Builder.extend.Goals as goal

pub returns-then-filled-lt-WRITER_BLOCK_MOST-clause-builder : goal.returns-then-filled-lt-WRITER_BLOCK_MOST-clause-builder
unfolding fill_places
returns-then-filled-lt-WRITER_BLOCK_MOST-clause-builder c =
    let b = c.args.self.now in
    let f = first_points c.args.filled b in
    let s = c.requires.count in
    let stay = extend-stays b.mode b.kind f b.places c.args.out.now (stays-few f (omega (arith, s, c.if-filled-lt-WRITER_BLOCK_MOST.true))) in
    ap (with_places b) (ap (λ (n : ℕ). fill_places n b.places) (sym s) ∙ sym stay.0)

pub returns-then-filled-lt-WRITER_BLOCK_MOST-clause-laid : goal.returns-then-filled-lt-WRITER_BLOCK_MOST-clause-laid
returns-then-filled-lt-WRITER_BLOCK_MOST-clause-laid c =
    let b = c.args.self.now in
    let f = first_points c.args.filled b in
    let s = c.requires.count in
    sym (extend-stays b.mode b.kind f b.places c.args.out.now (stays-few f (omega (arith, s, c.if-filled-lt-WRITER_BLOCK_MOST.true)))).1

pub returns-clause-builder : goal.returns-clause-builder
unfolding flush_places
returns-clause-builder c =
    let b = c.args.self.now in
    let f = first_points c.args.filled b in
    let s = c.requires.count in
    c.flush.ensures.builder
    ∙ ap (with_places b) (sym (extend-flushes b.mode b.kind f b.places c.args.out.now (stays-full f (omega (arith, s, c.if-filled-lt-WRITER_BLOCK_MOST.false)))).0)

pub returns-clause-laid : goal.returns-clause-laid
unfolding flush_bytes
returns-clause-laid c =
    let b = c.args.self.now in
    let f = first_points c.args.filled b in
    let s = c.requires.count in
    c.flush.ensures.laid
    ∙ sym (extend-flushes b.mode b.kind f b.places c.args.out.now (stays-full f (omega (arith, s, c.if-filled-lt-WRITER_BLOCK_MOST.false)))).1

-- `end_block` meets its contract: an empty fill is no block.
use Prim.Native.Nat.{◌≤◌}
use mathlib.Core.Path.{◌≡◌, sym, ap, ◌∙◌}
use mathlib.Core.Bool.{false, true}
use native.Mathlib.Omega.{arith}
use Rattle.format.specs.Choice.{is_empty}
use Rattle.format.proofs.Lists.{not-empty}
use Rattle.builder.specs.Steps.{in_fill}
use Rattle.builder.proofs.Entries.{fill-count, with_places}
use Rattle.builder.proofs.Fills.{end_none, end-some, none_filled}
use Rattle.builder.proofs.Builder.end_block.Goals as goal
use Rattle.builder.proofs.Builder.end_block.Goals.{Start}

-- the fill is empty
none : (c : Start) → c.args.self.now.places.filled ≡ 0 → is_empty (in_fill c.args.self.now) ≡ true
none c e = let b = c.args.self.now in none_filled b.places.filled b.fill.times b.fill.values e

-- or it has points
some : (c : Start) → 1 ≤ c.args.self.now.places.filled → is_empty (in_fill c.args.self.now) ≡ false
some c h = let b = c.args.self.now in not-empty (in_fill b) (fill-count _ b (c.requires.block-fits h))

pub returns-then-self-eq0-clause-builder : goal.returns-then-self-eq0-clause-builder
returns-then-self-eq0-clause-builder c =
    let b = c.args.self.now in
    ap (with_places b) (sym (end_none b.mode b.kind (in_fill b) b.places c.args.out.now (none (goal.at.returns-then-self-eq0-clause-builder c).Start c.if-self-eq0.true)).0)

pub returns-then-self-eq0-clause-laid : goal.returns-then-self-eq0-clause-laid
returns-then-self-eq0-clause-laid c =
    let b = c.args.self.now in
    sym (end_none b.mode b.kind (in_fill b) b.places c.args.out.now (none (goal.at.returns-then-self-eq0-clause-laid c).Start c.if-self-eq0.true)).1

pub returns-clause-builder : goal.returns-clause-builder
returns-clause-builder c =
    let b = c.args.self.now in
    c.flush.ensures.builder
    ∙ ap (with_places b) (sym (end-some b.mode b.kind (in_fill b) b.places c.args.out.now (some (goal.at.returns-clause-builder c).Start (omega (arith, c.if-self-eq0.false)))).0)

pub returns-clause-laid : goal.returns-clause-laid
returns-clause-laid c =
    let b = c.args.self.now in
    c.flush.ensures.laid
    ∙ sym (end-some b.mode b.kind (in_fill b) b.places c.args.out.now (some (goal.at.returns-clause-laid c).Start (omega (arith, c.if-self-eq0.false)))).1

-- `lay_entry` meets its contract: the entry is laid, or nothing.
use Prim.Native.Nat.{ℕ, ◌-◌, ◌≤◌}
use mathlib.Core.Path.{ap₂, ◌∙◌}
use mathlib.Core.List.{List}
use lib.IntN.{ℤ, pos}
use lib.ListN.{length, get_or}
use Rattle.format.specs.Index.{entry_bytes}
use Rattle.format.specs.Bytes.{splice}
use Rattle.numbers.proofs.TwosComplement.{signed-pattern}
use Rattle.builder.proofs.Entries.{entry-is}
use native.Mathlib.Omega.{arith}
use Rattle.builder.proofs.Builder.lay_entry.Goals as goal

pub returns : goal.returns
returns c =
    let b = c.args.self.now in
    let n = b.places.filled in
    let offset = b.places.ends.block.0 in
    let first = get_or b.fill.times 0 (pos 0) in
    let last = get_or b.fill.times (n - 1) (pos 0) in
    let place = c.in_image-place in
    let in-times : n ≤ length b.fill.times = omega (arith, c.requires.0.most) in
    let in-values : n ≤ length b.fill.values = omega (arith, c.requires.0.most) in
    rw c.in-Lay.is
    (c.put_entry.ensures
    ∙ ap₂ (λ (x y : ℤ). splice place.result.0 (entry_bytes x y offset c.args.size) c.args.out.now) (signed-pattern first (omega arith)) (signed-pattern last (omega arith))
    ∙ ap₂ (λ (m : ℕ) (x : List ℕ). splice m x c.args.out.now) place.ensures (entry-is n b c.requires.0 in-times in-values offset c.args.size c.requires.2))

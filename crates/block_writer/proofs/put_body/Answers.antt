-- `put_body` meets its contract: the kind, the timestamps and the values, each laid after the one before.
use Prim.Native.Nat.{ℕ, ◌+◌}
use mathlib.Core.Path.{◌≡◌, ap, sym, ◌∙◌}
use mathlib.Core.List.{List, ◌∷◌}
use lib.ListN.{length, length-set}
use Rattle.format.specs.Kinds.{kind_byte}
use Rattle.format.specs.Block.{values_section, body_bytes, points_from}
use Rattle.format.specs.Bytes.{splice}
use Rattle.format.proofs.Splices.{splice-store, laid-two}
use Rattle.timestamps_writer.specs.Writing.{times_part}
use Rattle.block_writer.proofs.Parts.{body-parts, body-length}
use native.Mathlib.Omega.{arith}
use Rattle.block_writer.proofs.put_body.Goals as goal
use Rattle.block_writer.proofs.put_body.Goals.{Start}

sized : (c : Start)
    → let a = c.args in
    length (body_bytes a.kind (points_from a.times.now a.values.now)) ≡ 1 + length (times_part a.times.now) + length (values_section a.kind a.values.now)
sized c = body-length c.args.kind c.args.times.now c.args.values.now c.requires.0.same

pub bounds-out-at : goal.bounds-out-at
bounds-out-at c = omega (arith, c.requires.1, sized (goal.at.bounds-out-at c).Start)

pub put-values_at-requires-clause-times_in_bounds : goal.put-values_at-requires-clause-times_in_bounds
put-values_at-requires-clause-times_in_bounds c =
    rw length-set (omega (arith, c.requires.1, sized (goal.at.put-values_at-requires-clause-times_in_bounds c).Start))

pub put_values-requires : goal.put_values-requires
put_values-requires c =
    let put = c.put-values_at in (
      c.requires.0.values-fit,
      omega (arith, c.requires.1, sized (goal.at.put_values-requires c).Start, put.ensures.next, put.auto.out, length-set c.args.out.now c.args.at c.byte.result),
    )

pub returns : goal.returns
returns c =
    let a = c.args in
    let out = a.out.now in
    let times = times_part a.times.now in
    let values = values_section a.kind a.values.now in
    let first = c.put-values_at in
    let last = c.put_values in
    let byte = c.byte.result in
    let whole = body-parts a.kind a.times.now a.values.now c.requires.0.same in
    let stored : first.new.out ≡ splice a.at (kind_byte a.kind ∷ times) out =
    first.ensures.laid ∙ splice-store a.at byte times out (omega (arith, c.requires.1, sized (goal.at.returns c).Start))
    ∙ ap (λ (k : ℕ). splice a.at (k ∷ times) out) c.byte.ensures in record {
      next = omega (arith, last.ensures.next, first.ensures.next, sized (goal.at.returns c).Start);
      laid = laid-two a.at first.result (kind_byte a.kind ∷ times) values out first.new.out last.new.out
          (omega (arith, c.requires.1)) (omega (arith, first.ensures.next)) stored last.ensures.laid
          ∙ ap (λ (bs : List ℕ). splice a.at bs out) (sym whole);
    }

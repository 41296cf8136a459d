-- `integers::store` meets its contract: the numbers that are left, laid from here on, make what all of them make from the start.
use Rattle.std.proofs.Common.{◌≡◌, ℕ, ◌+◌, List, ◌∷◌, get_or, drop, sym, ap, ◌∙◌, arith, add-one, drop-cons, drop_of_length-le}
use Rattle.format.specs.Bytes.{splice}
use Rattle.format.specs.Integers.{stored_from}
use Rattle.format.proofs.Splices.{splice-nothing, splice-store}
use Rattle.numbers.proofs.TwosComplement.{stored_from-length}
use Rattle.integers.proofs.Cells.{lay-start}
use Rattle.integers.proofs.store.Goals as goal

pub loop-i-init : goal.loop-i-init
loop-i-init c = lay-start _ _ (sym c.requires ∙ sym (stored_from-length 0 c.args.values.now))

pub loop-i-preserved : goal.loop-i-preserved
loop-i-preserved c =
    let at = c.loop-i in
    let s = c.args.values.now in
    let x = get_or s at.i 0 in
    let rest = stored_from x (drop (at.i + 1) s) in
    let next : drop at.i s ≡ x ∷ drop (at.i + 1) s = rw add-one (drop-cons s at.i 0 (omega arith)) in
    splice-store at.i c.stored_after.result rest at.stored (omega arith)
    ∙ ap (λ (xs : List ℕ). splice at.i xs at.stored)
    (ap (λ (y : ℕ). y ∷ rest) c.stored_after.ensures ∙ ap (stored_from at.before) (sym next))
    ∙ at.invariant

pub returns : goal.returns
returns c =
    let at = c.loop-i in
    sym (splice-nothing at.i at.stored) ∙ rw (drop_of_length-le c.args.values.now {i = at.i} (omega arith)) at at.invariant

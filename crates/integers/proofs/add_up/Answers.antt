-- `integers::add_up` meets its contract: the values that are left, laid from here on, make what all of them make from the start.
use Rattle.std.proofs.Common.{◌≡◌, ℕ, ◌+◌, List, ◌∷◌, get_or, drop, sym, ap, ◌∙◌, arith, add-one, drop-cons, drop_of_length-le}
use lib.Seq.{drop-set-lt}
use Rattle.format.specs.Bytes.{splice}
use Rattle.format.specs.Integers.{values_from}
use Rattle.format.proofs.Splices.{splice-nothing, splice-store}
use Rattle.numbers.proofs.TwosComplement.{values_from-length}
use Rattle.integers.proofs.Cells.{lay-start}
use Rattle.integers.proofs.add_up.Goals as goal

pub loop-value-init : goal.loop-value-init
loop-value-init c = lay-start _ _ (sym (values_from-length 0 c.args.values.now))

pub loop-value-preserved : goal.loop-value-preserved
loop-value-preserved c =
    let at = c.loop-value in
    let i = at.value-index in
    let x = get_or at.values i 0 in
    let v = c.value_after-before.result in
    let rest = drop (i + 1) at.values in
    let next : drop i at.values ≡ x ∷ rest = rw add-one (drop-cons at.values i 0 (omega arith)) in
    rw (drop-set-lt (i + 1) at.values i v (omega arith))
    (splice-store i v (values_from v rest) at.values (omega arith)
    ∙ ap (λ (xs : List ℕ). splice i xs at.values)
    (ap (λ (y : ℕ). y ∷ values_from y rest) c.value_after-before.ensures ∙ ap (values_from at.before) (sym next))
    ∙ at.invariant)

pub returns : goal.returns
returns c =
    let at = c.loop-value in
    sym (splice-nothing at.value-index at.values) ∙ rw (drop_of_length-le at.values {i = at.value-index} (omega arith)) at at.invariant

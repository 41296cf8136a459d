-- `integers::repeat_number` meets its contract: the values that are left, laid from here on, make what all of them make from the start.
use Rattle.std.proofs.Common.{◌≡◌, suc, ◌+◌, ◌-◌, length, sym, ap, ◌∙◌, arith}
use Rattle.format.specs.Signed.{wrap_add}
use Rattle.format.specs.Integers.{value_after}
use Rattle.format.proofs.Splices.{splice-nothing, splice-store}
use Rattle.integers.proofs.Cells.{lay-start, runs, runs-are, runs-length}
use Rattle.integers.proofs.repeat_number.Goals as goal

pub loop-value-init : goal.loop-value-init
loop-value-init c =
    let n = length c.args.values.now in
    let all : n - 0 ≡ n = omega arith in
    rw all (lay-start _ _ (sym (runs-length c.args.first c.args.number n)))

pub loop-value-preserved : goal.loop-value-preserved
loop-value-preserved c =
    let at = c.loop-value in
    let i = at.value-index in
    let n = length c.args.values.now in
    let more : n - i ≡ suc (n - (i + 1)) = omega arith in
    let value : c.wrap_add-next.result ≡ value_after at.next c.args.number = c.wrap_add-next.ensures ∙ ap (wrap_add at.next) c.difference-step.ensures in
    rw value
    (splice-store i at.next (runs (value_after at.next c.args.number) c.args.number (n - (i + 1))) at.values (omega arith)
    ∙ rw more at at.invariant)

pub returns : goal.returns
returns c =
    let at = c.loop-value in
    let n = length c.args.values.now in
    let none : n - at.value-index ≡ 0 = omega arith in
    let some : n ≡ suc (n - 1) = omega arith in
    sym (splice-nothing at.value-index at.values) ∙ rw none at at.invariant ∙ ap (runs c.args.first c.args.number) some ∙ runs-are c.args.first c.args.number (n - 1)

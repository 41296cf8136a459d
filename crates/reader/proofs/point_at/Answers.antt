-- `point_at` meets its contract: the place where the time stands first gives the answer.
use Rattle.std.proofs.Common.{arith, sym, ap, ◌∙◌, FitsSigned}
use mir.Syntax.{w64}
use mir.ValLaws.{to_z-of_z}
use Rattle.reader.proofs.Parts.{answer_at, point-at}
use Rattle.reader.proofs.point_at.Goals as goal

pub returns-in_default : goal.returns-in_default
returns-in_default c =
    let a = c.args in
    ap (answer_at a.entry a.time a.patterns.now) (sym c.in_default.is ∙ rw (to_z-of_z w64 a.time c.ranges.time) at c.place_of.ensures) ∙ point-at a.entry a.time a.times.now a.patterns.now c.requires

pub returns : goal.returns
returns c =
    let a = c.args in
    let fits : FitsSigned w64 c.signed.result = omega (arith, c.signed.type_inv) in
    rw (to_z-of_z w64 c.signed.result fits, c.signed.ensures)
    (ap (answer_at a.entry a.time a.patterns.now) (sym c.in-Some.is ∙ rw (to_z-of_z w64 a.time c.ranges.time) at c.place_of.ensures) ∙ point-at a.entry a.time a.times.now a.patterns.now c.requires)

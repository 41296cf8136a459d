-- `timestamps_writer::search_exponent` meets its contract: where a difference is not divided, the exponent falls by one.
use mathlib.Core.Path.{sym, ◌∙◌}
use native.Mathlib.Omega.{arith}
use Rattle.timestamps_writer.proofs.Exponents.{find_none, find-within, find-less, find-end}
use Rattle.timestamps_writer.proofs.search_exponent.Goals as goal

pub returns-in_default : goal.returns-in_default
returns-in_default c = find-end c.loop-e.invariant (sym c.undivided.ensures ∙ c.in_default.is)

pub offset_bounds-rest-place : goal.offset_bounds-rest-place
offset_bounds-rest-place c =
    let h = find-within c.loop-e.invariant c.in-Some.place (sym c.undivided.ensures ∙ c.in-Some.is) in
    omega arith

pub loop-e-preserved : goal.loop-e-preserved
loop-e-preserved c = find-less c.loop-e.invariant c.in-Some.place (sym c.undivided.ensures ∙ c.in-Some.is)

pub returns : goal.returns
returns c = find_none c.loop-e.invariant (omega (arith, c.loop-e-test.false))

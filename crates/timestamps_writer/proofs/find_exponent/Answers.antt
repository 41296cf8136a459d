-- `timestamps_writer::find_exponent` meets its contract: without a difference it is 12, and where ten does not divide the first it is 0.
use native.Mathlib.Omega.{arith}
use Rattle.timestamps_writer.proofs.Exponents.{find-nothing, find_first}
use Rattle.timestamps_writer.proofs.find_exponent.Goals as goal

pub returns-then-is_empty : goal.returns-then-is_empty
returns-then-is_empty c = find-nothing _ (grind arith)

pub returns-then-differences-ne0 : goal.returns-then-differences-ne0
returns-then-differences-ne0 c = find_first _ (grind arith) c.if-differences-ne0.true

-- `timestamps_writer::put_differences` meets its contract: the differences passed stand in the cells, and those left complete them.
use Rattle.timestamps_writer.proofs.Gaps.{Stepping}
use Rattle.timestamps_writer.proofs.put_differences.Given as goal

abbrev pub invariant-loop-i : goal.invariant-loop-i
invariant-loop-i l = Stepping l.times l.cells l.i

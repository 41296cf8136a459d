-- `timestamps::add_up` meets its contract: the times passed stand in the cells, and what is left completes them.
use Rattle.format.specs.Signed.{signed}
use Rattle.timestamps.proofs.Adding.{scaled, Adding}
use Rattle.timestamps.proofs.add_up.Given as goal

abbrev pub invariant-loop-i : goal.invariant-loop-i
invariant-loop-i l = Adding (signed l.first) (scaled l.scale l.differences) l.initial.times l.times l.left l.i

-- `timestamps::repeat_difference` meets its contract: the differences left take no more than the time has left, so that each step is within it.
use Prim.Native.Nat.{◌-◌, ◌*◌, ◌≤◌}
use lib.ListN.{replicate}
use Rattle.format.specs.Signed.{signed}
use Rattle.timestamps.proofs.Adding.{Adding}
use Rattle.timestamps.proofs.repeat_difference.Given as goal

abbrev pub invariant-loop-i : goal.invariant-loop-i
invariant-loop-i l =
    Adding (signed l.first) (replicate l.count l.step) l.initial.times l.times l.left l.i × ((l.count - l.i) * l.step ≤ l.left)

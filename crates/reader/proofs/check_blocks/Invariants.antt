-- `check_blocks` meets its contract: what was counted and what is left make what the whole makes.
use Rattle.std.proofs.Common.{◌-◌, length}
use Rattle.reader.proofs.Checking.{Checking}
use Rattle.reader.proofs.check_blocks.Given as goal

abbrev pub invariant-loop-on : goal.invariant-loop-on
invariant-loop-on l = Checking l.image l.index.bytes.now l.index.start.0 l.at l.totals.keys l.totals.points

abbrev pub decreases-loop-on : goal.decreases-loop-on
decreases-loop-on l = length l.index.bytes.now - l.at.at.0

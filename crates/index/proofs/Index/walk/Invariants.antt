-- `Index::walk` meets its contract: what is left from the cursor says the same as what is left from the one given.
use Rattle.std.proofs.Common.{◌≡◌, ◌-◌, length}
use Rattle.index.specs.Cursors.{rest, walked}
use Rattle.index.proofs.Loops.{Deciding}
use Rattle.index.proofs.Index.walk.Given as goal

abbrev pub invariant-loop-on : goal.invariant-loop-on
invariant-loop-on l = Deciding l.self.bytes.now l.self.start.0 (walked (rest l.self.bytes.now l.self.start.0 l.initial.c)) l.c walked × (l.c.left ≡ 0)

abbrev pub decreases-loop-on : goal.decreases-loop-on
decreases-loop-on l = length l.self.bytes.now - l.c.at.0

-- `settle` meets its contract: the points to come stay the same, in the decoded block or in the next.
use native.Mathlib.Omega.{arith}
use Rattle.point_merge.proofs.Settles.{settled-block, settled-end}
use Rattle.point_merge.proofs.Side.settle.Goals as goal

pub returns-in-Some : goal.returns-in-Some
returns-in-Some c = settled-block _ _ (omega (arith, c.if-self.false)) _ _ c.in-Some.ensures

pub returns-in_default : goal.returns-in_default
returns-in_default c = settled-end _ _ (omega (arith, c.if-self.false)) _ c.requires c.in_default.ensures.0

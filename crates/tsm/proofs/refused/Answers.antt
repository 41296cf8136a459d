-- `refused` meets its contract: the number is that of the refusal.
use Rattle.tsm.proofs.refused.Goals as goal

pub returns : goal.returns
returns c = rw c.number.ensures

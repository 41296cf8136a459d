-- `compare` meets its contract. (The check would find it; said here, a wrong order is told by what it is.)
use Rattle.keys.proofs.compare.Goals as goal

pub returns : goal.returns
returns c = c.cmp.ensures

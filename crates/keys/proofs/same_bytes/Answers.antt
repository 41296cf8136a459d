-- `same_bytes` meets its contract. (The check would find it; said here, a wrong test is told by what it is.)
use Rattle.keys.proofs.same_bytes.Goals as goal

pub returns : goal.returns
returns c = c.eq.ensures

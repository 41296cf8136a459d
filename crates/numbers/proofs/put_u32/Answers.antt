-- `numbers::put_u32` meets its contract: the bytes of the high part and then those of the low part are laid as one.
use Rattle.std.proofs.Common.{arith}
use Rattle.numbers.proofs.BigEndian.{splice-big_bytes}
use Rattle.numbers.proofs.put_u32.Goals as goal

pub returns : goal.returns
returns c =
    rw (← splice-big_bytes c.args.at 2 2 c.args.n c.args.out.now (omega arith)) (cc)

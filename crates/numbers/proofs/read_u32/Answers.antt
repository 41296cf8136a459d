-- `numbers::read_u32` meets its contract: the number of four bytes is that of the first two and that of the last two.
use Rattle.std.proofs.Common.{arith}
use Rattle.numbers.proofs.BigEndian.{big_endian-part}
use Rattle.numbers.proofs.read_u32.Goals as goal

pub returns : goal.returns
returns c =
    let s = c.args.s.now in
    let at = c.args.at in
    rw (big_endian-part s at 2 2 (omega arith)) (cc)

-- `numbers::read_u64` meets its contract: two bytes more are 65,536 times what was read and the number of those two.
use Rattle.std.proofs.Common.{arith}
use Rattle.numbers.proofs.BigEndian.{big_endian-part}
use Rattle.numbers.proofs.read_u64.Goals as goal

pub returns : goal.returns
returns c =
    let s = c.args.s.now in
    let at = c.args.at in
    rw (big_endian-part s at 6 2 (omega arith), big_endian-part s at 4 2 (omega arith), big_endian-part s at 2 2 (omega arith)) (cc)

-- `Table::one` meets its contract: a byte is two groups of four bits.
use lib.Bits.{bit_xor}
use Rattle.crc32.proofs.ByGroups.{two-groups}
use Rattle.crc32.proofs.Table.one.Goals as goal

pub returns : goal.returns
returns c = cc (two-groups (bit_xor c.args.c c.args.b))

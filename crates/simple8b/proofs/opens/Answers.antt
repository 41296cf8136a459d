-- `simple8b::opens` meets its contract: no bit from the numbers' last on is set.
use Rattle.std.proofs.Common.{◌/◌, ◌^◌, arith}
use Rattle.simple8b.proofs.Table.{Known, known}
use Rattle.simple8b.proofs.Words.{opens-is}
use Rattle.simple8b.proofs.opens.Goals as goal

pub overflow_shr-result : goal.overflow_shr-result
overflow_shr-result c =
    let k : Known c.args.selector = known (c.args.word / 2 ^ 60) c.args.selector (omega arith) c.requires in
    omega (arith, k.used)

pub returns : goal.returns
returns c = opens-is c.args.word c.args.selector c.requires

-- `numbers::varint_len` meets its contract: a number below 128 takes one byte, and any other one byte for each seven bits.
use Rattle.std.proofs.Common.{length, sym, ap, arith}
use lib.Count.{leading_le, leading_top}
use Rattle.numbers.proofs.Varints.{varint-last, varint-bits}
use Rattle.numbers.proofs.varint_len.Goals as goal

pub returns-then-n-lt-GROUP : goal.returns-then-n-lt-GROUP
returns-then-n-lt-GROUP c = sym (ap length (varint-last c.args.n (omega arith)))

pub overflow_sub-bits : goal.overflow_sub-bits
overflow_sub-bits c = leading_le 64 c.args.n

pub returns : goal.returns
returns c =
    let n = c.args.n in
    let top = leading_top 64 n (omega arith) (omega arith) in
    omega (arith, top.1, varint-bits n top.0 top.2 top.3 (omega (arith, top.1)))

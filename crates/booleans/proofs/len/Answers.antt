-- `len` meets its contract: a varint has ten bytes at most, so the sum fits.
use native.Mathlib.Omega.{arith}
use Rattle.numbers.proofs.Varints.{varint-length-most}
use Rattle.booleans.proofs.len.Goals as goal

pub overflow_add-result : goal.overflow_add-result
overflow_add-result c = omega (arith, varint-length-most c.args.n)

pub overflow_add-result-2 : goal.overflow_add-result-2
overflow_add-result-2 c = omega (arith, varint-length-most c.args.n)

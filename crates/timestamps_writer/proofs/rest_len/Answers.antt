-- `timestamps_writer::rest_len` meets its contract, by layout.
use Prim.Native.Nat.{◌+◌, ◌/◌}
use native.Mathlib.Nat.{one-le-pow}
use native.Mathlib.Omega.{arith}
use lib.Dec.{lit<}
use lib.ListN.{length, get_or}
use Rattle.numbers.proofs.Varints.{varint-length-most}
use Rattle.section_laws.proofs.WordsOfBytes.{flat_bytes-length}
use Rattle.timestamps_writer.proofs.rest_len.Goals as goal

pub nonzero_div-numbers : goal.nonzero_div-numbers
nonzero_div-numbers c = rw c.power_of_ten.ensures (one-le-pow _ 10 (lit< tt))

pub overflow_add-result : goal.overflow_add-result
overflow_add-result c =
    omega (arith, c.varint_len.ensures, varint-length-most (get_or c.args.numbers.now 0 0 / c.power_of_ten.result), c.varint_len-in-Repeated.ensures, varint-length-most (length c.args.numbers.now + 1))

pub returns-in-Raw : goal.returns-in-Raw
returns-in-Raw c = rw c.in-Raw.is (omega (arith, flat_bytes-length 8 c.args.numbers.now))

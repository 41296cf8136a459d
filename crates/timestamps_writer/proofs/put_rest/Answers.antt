-- `timestamps_writer::put_rest` meets its contract, by layout: the two varints, the packed words or the words of 8 bytes.
use Prim.Native.Nat.{◌+◌, ◌≤◌}
use native.Mathlib.Nat.{one-le-pow}
use native.Mathlib.Omega.{arith}
use lib.Dec.{lit<}
use lib.ListN.{length}
use Rattle.format.proofs.Splices.{laid-two}
use Rattle.section_laws.proofs.WordsOfBytes.{flat_bytes-length}
use Rattle.timestamps_writer.specs.declared.Layout.TheVariants.{Raw}
use Rattle.timestamps_writer.specs.Writing.{layout_rest}
use Rattle.timestamps_writer.proofs.put_rest.Goals as goal

pub nonzero_div-numbers : goal.nonzero_div-numbers
nonzero_div-numbers c = rw c.power_of_ten.ensures (one-le-pow _ 10 (lit< tt))

pub put_words-requires : goal.put_words-requires
put_words-requires c =
    let room : c.args.at + length (layout_rest Raw c.args.numbers.now) ≤ length c.args.out.now = rw c.in-Raw.is at c.requires.2 in
    omega (arith, room, flat_bytes-length 8 c.args.numbers.now)

pub returns-in-Repeated-clause-laid : goal.returns-in-Repeated-clause-laid
returns-in-Repeated-clause-laid c =
    rw (c.in-Repeated.is, ← c.power_of_ten.ensures)
    (laid-two c.args.at c.put_varint-next.result _ _ c.args.out.now c.put_varint-next.new.out c.put_varint.new.out (omega (arith, c.requires.2)) c.put_varint-next.ensures.next c.put_varint-next.ensures.laid c.put_varint.ensures.laid)

pub returns-in-Raw-clause-next : goal.returns-in-Raw-clause-next
returns-in-Raw-clause-next c = rw c.in-Raw.is (omega (arith, c.put_words.ensures.next, flat_bytes-length 8 c.args.numbers.now))

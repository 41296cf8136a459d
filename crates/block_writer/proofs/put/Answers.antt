-- `put` meets its contract: the body is laid, and then the checksum of what was laid before it.
use Prim.Native.Nat.{ℕ, ◌+◌}
use mathlib.Core.Path.{◌≡◌, ap, ◌∙◌}
use mathlib.Core.List.{List}
use lib.ListN.{length}
use Rattle.format.specs.Crc32.{crc32}
use Rattle.format.specs.Bytes.{big_bytes, splice}
use Rattle.format.specs.Block.{body_bytes, block_bytes, points_from}
use Rattle.numbers.proofs.BigEndian.{big_bytes-length}
use Rattle.block_writer.proofs.Parts.{block-length}
use Rattle.format.proofs.Splices.{laid-before, part-back}
use native.Mathlib.Omega.{arith}
use Rattle.block_writer.proofs.put.Goals as goal
use Rattle.block_writer.proofs.put.Goals.{Start}

abbrev body : Start → List ℕ
body c = body_bytes c.args.kind (points_from c.args.times.now c.args.values.now)

sized : (c : Start) → length (block_bytes c.args.kind (points_from c.args.times.now c.args.values.now)) ≡ 4 + length (body c)
sized c = block-length c.args.kind (points_from c.args.times.now c.args.values.now)

pub put_body-next-requires : goal.put_body-next-requires
put_body-next-requires c = (c.requires.0, omega (arith, c.requires.1, sized (goal.at.put_body-next-requires c).Start))

pub slice_bounds-checksum-end : goal.slice_bounds-checksum-end
slice_bounds-checksum-end c = omega (arith, c.requires.1, sized (goal.at.slice_bounds-checksum-end c).Start, c.put_body-next.ensures.next, c.put_body-next.auto.out)

pub put_u32-requires : goal.put_u32-requires
put_u32-requires c = omega (arith, c.requires.1, sized (goal.at.put_u32-requires c).Start, c.put_body-next.auto.out)

pub returns : goal.returns
returns c =
    let a = c.args in
    let laid = c.put_body-next in
    let last = c.put_u32 in
    let bytes = body (goal.at.returns c).Start in
    let four = big_bytes-length 4 (crc32 bytes) in
    let sum : c.checksum-sum.result ≡ crc32 bytes =
    c.checksum-sum.ensures ∙ ap crc32 (part-back (a.at + 4) laid.result bytes a.out.now laid.new.out (omega (arith, c.requires.1, sized (goal.at.returns c).Start)) laid.ensures.next laid.ensures.laid) in record {
      next = omega (arith, laid.ensures.next, sized (goal.at.returns c).Start);
      laid = laid-before a.at (a.at + 4) (big_bytes 4 (crc32 bytes)) bytes a.out.now laid.new.out last.new.out
          (omega (arith, c.requires.1, sized (goal.at.returns c).Start)) (omega (arith, four)) laid.ensures.laid
          (last.ensures ∙ ap (λ (n : ℕ). splice a.at (big_bytes 4 n) laid.new.out) sum);
    }

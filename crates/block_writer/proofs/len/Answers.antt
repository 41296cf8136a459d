-- `len` meets its contract: checksum and kind, the length of the timestamps, and the two sections.
use mathlib.Core.Path.{◌≡◌, ap, sym, ◌∙◌}
use Prim.Native.Nat.{ℕ, ◌+◌, ◌≤◌}
use lib.ListN.{length}
use Rattle.format.specs.Varint.{varint}
use Rattle.format.specs.Block.{block_bytes, points_from}
use Rattle.block_writer.proofs.Parts.{points_bytes-length, points-most}
use native.Mathlib.Omega.{arith}
use Rattle.block_writer.proofs.len.Goals as goal

-- the parts and the whole
record Sized (c : goal.After-varint_len) : Type 0 where
  whole : let a = c.args in
      length (block_bytes a.kind (points_from a.times.now a.values.now))
      ≡ 5 + c.varint_len.result + c.len-times_len.result + c.values_len-values_len.result
  most : c.varint_len.result + c.len-times_len.result + c.values_len-values_len.result ≤ 20_000

sized : (c : goal.After-varint_len) → Sized c
sized c =
    let a = c.args in
    let e = c.len-times_len.ensures in
    let f = c.values_len-values_len.ensures in
    let g = c.varint_len.ensures ∙ ap (λ (n : ℕ). length (varint n)) e in
    let whole = points_bytes-length a.kind a.times.now a.values.now c.requires in
    record {
      whole = omega (arith, whole, e, f, g);
      most = omega (arith, whole, e, f, g, points-most a.kind a.times.now a.values.now c.requires);
    }

pub overflow_add-result : goal.overflow_add-result
overflow_add-result c = omega (arith, (sized c).most)

pub overflow_add-result-2 : goal.overflow_add-result-2
overflow_add-result-2 c = omega (arith, (sized c).most)

pub overflow_add-result-3 : goal.overflow_add-result-3
overflow_add-result-3 c = omega (arith, (sized c).most)

pub returns : goal.returns
returns c = sym (sized c).whole

-- Rows of holes: a byte is the number of its bits, and the bits of a section are those of its bytes.
use Prim.Native.Nat.{ℕ, ◌+◌, ◌-◌, ◌*◌, ◌/◌, ◌%◌, ◌^◌, ◌<◌}
use mathlib.Core.Path.{◌≡◌, ap, sym, subst, ◌∙◌}
use mathlib.Core.List.{List, [], ◌∷◌, ◌++◌, append-nil}
use native.Mathlib.Omega.{arith}
use lib.ListN.{length, get_or}
use lib.Seq.{get_or-drop, get_or-append-add}
use Rattle.format.specs.Varint.{varint}
use Rattle.format.specs.Booleans.{bits_high_first, byte_of_bits, bytes_of_bits, bitmap_size}
use Rattle.section_laws.proofs.Bits.{bits_each, each_bits, bits-length, bits_below, bytes-at}
use Rattle.section_laws.proofs.BitsBack.{zeros-whole, zeros-at, bits-number, number-bits, bits-bytes}
use Rattle.section_laws.proofs.BlockLengths.{bytes_of_bits-length}
use Rattle.booleans.proofs.OpenedBytes.{opened-bits}
use Rattle.acceptance.specs.Sections.{BooleansSection}
use Rattle.theorems.specs.HoleRows.{EightHoles, HoleRows}

-- the number of eight bits, by their weights
weighed : (vs : List ℕ)
    → byte_of_bits 8 vs
    ≡ 128 * get_or vs 0 0 + 64 * get_or vs 1 0 + 32 * get_or vs 2 0 + 16 * get_or vs 3 0 + 8 * get_or vs 4 0 + 4 * get_or vs 5 0 + 2 * get_or vs 6 0 + get_or vs 7 0
unfolding byte_of_bits
weighed vs = simp get_or-drop (omega arith)

holes-of : (b : ℕ) → b < 256 → EightHoles b (bits_high_first 8 b)
holes-of b byte =
    let number : byte_of_bits 8 (bits_high_first 8 b) ≡ b % 2 ^ 8 = rw append-nil at (number-bits 8 b []) in
    record {
      eight = bits-length 8 b;
      bit = bits_each (bits_high_first 8 b) (bits_below 8 b);
      weights = let all : b ≡ b % 2 ^ 8 = omega arith in all ∙ sym number ∙ weighed (bits_high_first 8 b);
    }

holes-only : (b : ℕ) (holes : List ℕ) → EightHoles b holes → bits_high_first 8 b ≡ holes
holes-only b holes h =
    let number : b ≡ byte_of_bits 8 holes = h.weights ∙ sym (weighed holes) in
    ap (bits_high_first 8) number ∙ bits-number 8 holes (each_bits holes h.bit) ∙ zeros-whole 8 holes h.eight

row : (bs vs : List ℕ) (i : ℕ) → BooleansSection bs vs → i < length vs
    → get_or vs i 0 ≡ get_or bs (1 + length (varint (length vs)) + i / 8) 0 / 2 ^ (7 - i % 8) % 2
row bs vs i s h =
    let n = length vs in
    let bytes = bytes_of_bits (bitmap_size n) vs in
    let head : List ℕ = 0x10 ∷ varint n in
    let size : length head ≡ 1 + length (varint n) = omega arith in
    let byte : get_or bs (1 + length (varint n) + i / 8) 0 ≡ get_or bytes (i / 8) 0 =
    ap (λ (l : List ℕ). get_or l (1 + length (varint n) + i / 8) 0) s.bytes
    ∙ subst (λ (k : ℕ). get_or (head ++ bytes) (k + i / 8) 0 ≡ get_or bytes (i / 8) 0) size (get_or-append-add head bytes (i / 8) 0) in
    rw byte
    (sym (zeros-at (8 * bitmap_size n) vs i (omega arith))
    ∙ ap (λ (l : List ℕ). get_or l i 0) (sym (bits-bytes (bitmap_size n) vs (each_bits vs s.bit)))
    ∙ bytes-at bytes i (omega (arith, bytes_of_bits-length (bitmap_size n) vs)))

pub hole_rows : HoleRows
hole_rows = record {
  byte = λ b holes h. (
    λ e. subst (EightHoles b) (sym (opened-bits b h) ∙ e) (holes-of b h),
    λ e. opened-bits b h ∙ holes-only b holes e,
  );
  row = row;
}

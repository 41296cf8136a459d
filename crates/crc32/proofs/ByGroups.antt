-- The register by groups of four bits, as the table has them.
--   by_groups     a run by the groups of the register, from some group on
--   by-groups    it is the run
--   two-groups   a byte's run
use mathlib.Core.Path.{◌≡◌, sym, ap, ◌∙◌}
use Prim.Native.Nat.{ℕ, zero, suc, ◌+◌, ◌*◌, ◌/◌, ◌%◌, ◌^◌}
use native.Mathlib.Nat.{add-zero, div-one, div-div-eq-div-mul, pow-suc}
use native.Mathlib.Omega.{arith}
use lib.Bits.{bit_xor}
use Rattle.format.specs.Crc32.{shift_bits}
use Rattle.crc32.proofs.Runs.{bits_none, bits-split}

-- the register x from its group i on: each of j groups goes its whole way, and the rest goes k groups
abbrev pub by_groups : (k j i x : ℕ) → ℕ
by_groups k zero i x = shift_bits (4 * k) (x / 16 ^ i)
by_groups k (suc j) i x = bit_xor (shift_bits (4 * (k + j) + 4) (x / 16 ^ i % 16)) (by_groups k j (suc i) x)

pub by-groups : (k j i x : ℕ) → by_groups k j i x ≡ shift_bits (4 * (k + j)) (x / 16 ^ i)
by-groups k zero i x = rw add-zero
by-groups k (suc j) i x =
    let y : ℕ = x / 16 ^ i in
    let p : 4 * (k + j) + 4 ≡ 4 + 4 * (k + j) = omega arith in
    let q : 4 * (k + suc j) ≡ 4 + 4 * (k + j) = omega arith in
    let down : x / 16 ^ suc i ≡ y / 16 = rw (pow-suc) (sym (div-div-eq-div-mul x (16 ^ i) 16)) in
    ap (bit_xor (shift_bits (4 * (k + j) + 4) (y % 16))) (by-groups k j (suc i) x ∙ ap (shift_bits (4 * (k + j))) down)
    ∙ rw (p, q) (sym (bits-split 4 (4 * (k + j)) y))

pub two-groups : (x : ℕ) → bit_xor (shift_bits 8 (x % 16)) (bit_xor (shift_bits 4 (x / 0x10 % 16)) (x / 0x100)) ≡ shift_bits 8 x
two-groups x = cc (by-groups 0 2 0 x, div-one x, bits_none (x / 0x100))

-- A run of bits of the register: it is linear, and passes over low zero bits as over a shift.
--   bits_none, bits-zero   no bit; a register of zero
--   bits-xor               a run is linear
--   bits-even, bits-shift, bits_up   low zero bits: one, all of a run, the first of a run
--   bits-add               one run after another
--   parts                  a number by its low bits and the rest
--   bits-split             a run by the low bits of the register and the rest
--   bits-later             what is met some bits later stands so many places up
--   bits-lt                the register has 32 bits
use mathlib.Core.Path.{◌≡◌, refl, sym, ap, ap₂, ◌∙◌}
use mathlib.Core.Bool.{Bool, true, false}
use Prim.Native.Nat.{ℕ, zero, suc, ◌+◌, ◌*◌, ◌/◌, ◌%◌, ◌^◌, ◌<◌}
use native.Mathlib.Nat.{mul-one, zero-add, suc-add, mod-lt, pow-suc, mul_assoc, mul-div_cancel, mul-mod_left}
use native.Mathlib.Omega.{arith}
use borrow.Author.Tests.{eqb-true, eqb-false}
use lib.Pow.{pow_pos, split}
use lib.Dec.{eqb, lit<}
use lib.Bits.{bit_xor, xor_lt, xor_shr, xor_mod, xor_comm, xor_shifted, xor_zero_r}
use Rattle.std.specs.Prelude.{if◌then◌else◌}
use Rattle.format.specs.Crc32.{polynomial, shift_bits}
use Rattle.crc32.proofs.Xor.{both_bits, xor-swap}

-- ---- one bit

abbrev shift_bit : ℕ → ℕ
shift_bit c = if eqb (c % 2) 0 then c / 2 else bit_xor (c / 2) polynomial

bit-by : (c : ℕ) (even : Bool) → eqb (c % 2) 0 ≡ even → shift_bit c ≡ bit_xor (c / 2) (c % 2 * polynomial)
bit-by c true e = rw e (rw (eqb-true (c % 2) 0 e) (sym (xor_zero_r (c / 2))))
bit-by c false e = let odd : c % 2 ≡ 1 = omega (arith, eqb-false (c % 2) 0 e) in rw (e, odd)

-- the same with no choice
bit-product : (c : ℕ) → shift_bit c ≡ bit_xor (c / 2) (c % 2 * polynomial)
bit-product c = bit-by c (eqb (c % 2) 0) refl

times : (a b : ℕ) → a < 2 → b < 2 → bit_xor a b * polynomial ≡ bit_xor (a * polynomial) (b * polynomial)
times = both_bits (λ (a b : ℕ). bit_xor a b * polynomial ≡ bit_xor (a * polynomial) (b * polynomial)) refl refl refl refl

bit-xor : (a b : ℕ) → shift_bit (bit_xor a b) ≡ bit_xor (shift_bit a) (shift_bit b)
bit-xor a b =
    bit-product (bit_xor a b)
    ∙ ap₂ (λ (x y : ℕ). bit_xor x (y * polynomial)) (xor_shr a b 1) (xor_mod a b 1)
    ∙ ap (bit_xor (bit_xor (a / 2) (b / 2))) (times (a % 2) (b % 2) (mod-lt a (lit< tt)) (mod-lt b (lit< tt)))
    ∙ xor-swap (a / 2) (b / 2) (a % 2 * polynomial) (b % 2 * polynomial)
    ∙ ap₂ bit_xor (sym (bit-product a)) (sym (bit-product b))

bit-even : (a : ℕ) → shift_bit (a * 2) ≡ a
bit-even a =
    bit-product (a * 2)
    ∙ ap₂ (λ (x y : ℕ). bit_xor x (y * polynomial)) (mul-div_cancel a (lit< tt)) (mul-mod_left a 2)
    ∙ xor_zero_r a

bit-lt : (r : ℕ) → r < 2 ^ 32 → shift_bit r < 2 ^ 32
bit-lt r h = rw (bit-product r) (xor_lt 32 (r / 2) (r % 2 * polynomial) (omega arith) (omega arith))

-- ---- a run

pub bits_none : (a : ℕ) → shift_bits 0 a ≡ a
unfolding shift_bits
bits_none a = refl

pub bits-zero : (k : ℕ) → shift_bits k 0 ≡ 0
unfolding shift_bits
bits-zero zero = refl
bits-zero (suc k) = bits-zero k

pub bits-xor : (k a b : ℕ) → shift_bits k (bit_xor a b) ≡ bit_xor (shift_bits k a) (shift_bits k b)
unfolding shift_bits
bits-xor zero a b = refl
bits-xor (suc k) a b = ap (shift_bits k) (bit-xor a b) ∙ bits-xor k (shift_bit a) (shift_bit b)

pub bits-even : (k a : ℕ) → shift_bits (suc k) (a * 2) ≡ shift_bits k a
unfolding shift_bits
bits-even k a = ap (shift_bits k) (bit-even a)

pub bits-shift : (k a : ℕ) → shift_bits k (a * 2 ^ k) ≡ a
unfolding shift_bits
bits-shift zero a = mul-one a
bits-shift (suc k) a =
    ap (shift_bits (suc k)) (ap (λ (x : ℕ). a * x) (pow-suc 2 k) ∙ sym (mul_assoc a (2 ^ k) 2))
    ∙ bits-even k (a * 2 ^ k) ∙ bits-shift k a

pub bits-add : (j k a : ℕ) → shift_bits (j + k) a ≡ shift_bits k (shift_bits j a)
unfolding shift_bits
bits-add zero k a = ap (λ (n : ℕ). shift_bits n a) (zero-add k)
bits-add (suc j) k a = ap (λ (n : ℕ). shift_bits n a) (suc-add j k) ∙ bits-add j k (shift_bit a)

pub bits_up : (j k n x : ℕ) → n ≡ j + k → shift_bits n (x * 2 ^ j) ≡ shift_bits k x
bits_up j k n x e =
    ap (λ (m : ℕ). shift_bits m (x * 2 ^ j)) e ∙ bits-add j k (x * 2 ^ j) ∙ ap (shift_bits k) (bits-shift j x)

pub bits-lt : (k r : ℕ) → r < 2 ^ 32 → shift_bits k r < 2 ^ 32
unfolding shift_bits
bits-lt zero r h = h
bits-lt (suc k) r h = bits-lt k (shift_bit r) (bit-lt r h)

-- ---- low bits and the rest

pub parts : (j x : ℕ) → x ≡ bit_xor (x / 2 ^ j * 2 ^ j) (x % 2 ^ j)
parts j x = sym (xor_shifted (x / 2 ^ j) j (x % 2 ^ j) (mod-lt x (pow_pos j)) ∙ split x j)

-- the j low bits of the register go the whole way, and the rest, moved down, the k bits that are left
pub bits-split : (j k x : ℕ) → shift_bits (j + k) x ≡ bit_xor (shift_bits (j + k) (x % 2 ^ j)) (shift_bits k (x / 2 ^ j))
bits-split j k x =
    ap (shift_bits (j + k)) (parts j x)
    ∙ bits-xor (j + k) (x / 2 ^ j * 2 ^ j) (x % 2 ^ j)
    ∙ ap (λ (y : ℕ). bit_xor y (shift_bits (j + k) (x % 2 ^ j))) (bits_up j k (j + k) (x / 2 ^ j) refl)
    ∙ xor_comm (shift_bits k (x / 2 ^ j)) (shift_bits (j + k) (x % 2 ^ j))

pub bits-later : (k j x b : ℕ) → shift_bits j (bit_xor (shift_bits k x) b) ≡ shift_bits (k + j) (bit_xor x (b * 2 ^ k))
bits-later k j x b =
    ap (λ (y : ℕ). shift_bits j (bit_xor (shift_bits k x) y)) (sym (bits-shift k b))
    ∙ ap (shift_bits j) (sym (bits-xor k x (b * 2 ^ k))) ∙ sym (bits-add k j (bit_xor x (b * 2 ^ k)))

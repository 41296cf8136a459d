-- Multiples of the polynomial: what the lowest term leaves in the register is what the other terms leave. A term counts by how far it
-- stands below the highest.
--   terms      the other terms, some bits of the register later
--   multiple   a register of n bits leaves the same by them as by the lowest term
use mathlib.Core.Path.{◌≡◌, refl, sym, ap, ap₂, ◌∙◌}
use mathlib.Core.List.{List, [], ◌∷◌}
use Prim.Native.Nat.{ℕ, zero, suc, ◌+◌, ◌*◌, ◌/◌, ◌%◌, ◌^◌, ◌<◌}
use native.Mathlib.Nat.{zero-add, add_comm, suc-add, mod-lt, pow-suc}
use native.Mathlib.Omega.{arith}
use lib.Arith.{lt-one}
use lib.Dec.{lit<}
use lib.Bits.{bit_xor}
use Rattle.format.specs.Crc32.{shift_bits}
use Rattle.crc32.proofs.Xor.{bit-cases, xor-swap}
use Rattle.crc32.proofs.Runs.{bits-zero, bits-xor, bits-add, bits-even, parts}

-- ---- exclusive sums

abbrev sum : (ℕ → ℕ) → List ℕ → ℕ
sum f [] = 0
sum f (d ∷ ds) = bit_xor (f d) (sum f ds)

sum_same : (f g : ℕ → ℕ) → ((d : ℕ) → f d ≡ g d) → (ds : List ℕ) → sum f ds ≡ sum g ds
sum_same f g e [] = refl
sum_same f g e (d ∷ ds) = ap₂ bit_xor (e d) (sum_same f g e ds)

sum-xor : (f g : ℕ → ℕ) (ds : List ℕ) → sum (λ (d : ℕ). bit_xor (f d) (g d)) ds ≡ bit_xor (sum f ds) (sum g ds)
sum-xor f g [] = refl
sum-xor f g (d ∷ ds) = ap (bit_xor (bit_xor (f d) (g d))) (sum-xor f g ds) ∙ xor-swap (f d) (g d) (sum f ds) (sum g ds)

sum-run : (n : ℕ) (f : ℕ → ℕ) (ds : List ℕ) → shift_bits n (sum f ds) ≡ sum (λ (d : ℕ). shift_bits n (f d)) ds
sum-run n f [] = bits-zero n
sum-run n f (d ∷ ds) = bits-xor n (f d) (sum f ds) ∙ ap (bit_xor (shift_bits n (f d))) (sum-run n f ds)

sum-zero : (n : ℕ) (ds : List ℕ) → sum (λ (d : ℕ). shift_bits (n + d) 0) ds ≡ 0
sum-zero n [] = refl
sum-zero n (d ∷ ds) = rw (bits-zero (n + d)) (sum-zero n ds)

-- ---- the other terms

-- ds how far they stand below the highest; n bits of the register x later
abbrev pub terms : List ℕ → ℕ → ℕ → ℕ
terms ds n x = sum (λ (d : ℕ). shift_bits (n + d) x) ds

terms-xor : (ds : List ℕ) (n a b : ℕ) → terms ds n (bit_xor a b) ≡ bit_xor (terms ds n a) (terms ds n b)
terms-xor ds n a b =
    sum_same (λ (d : ℕ). shift_bits (n + d) (bit_xor a b)) (λ (d : ℕ). bit_xor (shift_bits (n + d) a) (shift_bits (n + d) b))
    (λ d. bits-xor (n + d) a b) ds
    ∙ sum-xor (λ (d : ℕ). shift_bits (n + d) a) (λ (d : ℕ). shift_bits (n + d) b) ds

late : (n k : ℕ) → shift_bits n (shift_bits k 1) ≡ shift_bits (n + k) 1
late n k = sym (bits-add k n 1) ∙ ap (λ (m : ℕ). shift_bits m 1) (add_comm k n)

even-at : (n k y : ℕ) → shift_bits (suc n + k) (y * 2) ≡ shift_bits (n + k) y
even-at n k y = ap (λ (m : ℕ). shift_bits m (y * 2)) (suc-add n k) ∙ bits-even (n + k) y

half_lt_pow : (n x : ℕ) → x < 2 ^ suc n → x / 2 < 2 ^ n
half_lt_pow n x h = let p : 2 ^ suc n ≡ 2 ^ n * 2 = pow-suc 2 n in omega (arith, h, p)

-- e how far the lowest term stands below the highest
module _ (e : ℕ) (ds : List ℕ) (one_bit : shift_bits e 1 ≡ terms ds 0 1) where
  at-bit : (n b : ℕ) → b < 2 → shift_bits (n + e) b ≡ terms ds n b
  at-bit n =
      bit-cases (λ (b : ℕ). shift_bits (n + e) b ≡ terms ds n b) (bits-zero (n + e) ∙ sym (sum-zero n ds))
      (sym (late n e) ∙ ap (shift_bits n) one_bit ∙ sum-run n (λ (d : ℕ). shift_bits (0 + d) 1) ds
      ∙ sum_same (λ (d : ℕ). shift_bits n (shift_bits (0 + d) 1)) (λ (d : ℕ). shift_bits (n + d) 1) (λ d. rw zero-add (late n d)) ds)

  pub multiple : (n x : ℕ) → x < 2 ^ n → shift_bits (n + e) x ≡ terms ds n x
  multiple zero x h = rw (lt-one h) (at-bit 0 0 (lit< tt))
  multiple (suc n) x h =
      let y : ℕ = x / 2 in
      ap (shift_bits (suc n + e)) (parts 1 x)
      ∙ bits-xor (suc n + e) (y * 2) (x % 2)
      ∙ ap₂ bit_xor
      (even-at n e y ∙ multiple n y (half_lt_pow n x h)
      ∙ sym (sum_same (λ (d : ℕ). shift_bits (suc n + d) (y * 2)) (λ (d : ℕ). shift_bits (n + d) y) (λ d. even-at n d y) ds))
      (at-bit (suc n) (x % 2) (mod-lt x (lit< tt)))
      ∙ sym (ap (terms ds (suc n)) (parts 1 x) ∙ terms-xor ds (suc n) (y * 2) (x % 2))

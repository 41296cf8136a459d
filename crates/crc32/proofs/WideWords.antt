-- The words of the wide register, shifts of a word being cut at their edges.
--   four          four words as a number
--   spread        what a word that leaves adds to them
--   folded_words   the five words that the code computes
--   words         they are the four words and what is added
use mathlib.Core.Path.{◌≡◌, sym, ap, ap₂, ◌∙◌}
use Prim.Native.Nat.{ℕ, ◌+◌, ◌*◌, ◌/◌, ◌%◌, ◌^◌}
use native.Mathlib.Nat.{zero-mul}
use lib.Pow.{shl-shr, shr-shr}
use lib.Bits.{bit_xor, xor_comm, xor_shr, xor_mod, xor_zero_r}
use Rattle.crc32.specs.Wide.{wide}
use Rattle.crc32.proofs.Xor.{xor_assoc, xor-swap, xor-shl}
use Rattle.crc32.proofs.Runs.{parts}

carry : (j k x : ℕ) → x / 2 ^ k ≡ x * 2 ^ j / 2 ^ (j + k)
carry j k x = sym (sym (shr-shr (x * 2 ^ j) j k) ∙ ap (λ (y : ℕ). y / 2 ^ k) (shl-shr x j))

whole : (k y : ℕ) → bit_xor (y % 2 ^ k) (y / 2 ^ k * 2 ^ k) ≡ y
whole k y = xor_comm (y % 2 ^ k) (y / 2 ^ k * 2 ^ k) ∙ sym (parts k y)

-- what a word gets of y, with what its neighbour gets of y and of z
next-words : (k a h y r z : ℕ)
    → bit_xor (bit_xor a (bit_xor h (y % 2 ^ k))) (bit_xor r (bit_xor (y / 2 ^ k) z) * 2 ^ k)
    ≡ bit_xor (bit_xor a (r * 2 ^ k)) (bit_xor h (bit_xor y (z * 2 ^ k)))
next-words k a h y r z =
    let u : ℕ = y % 2 ^ k in
    let v : ℕ = y / 2 ^ k * 2 ^ k in
    ap (bit_xor (bit_xor a (bit_xor h u))) (xor-shl k r (bit_xor (y / 2 ^ k) z) ∙ ap (bit_xor (r * 2 ^ k)) (xor-shl k (y / 2 ^ k) z))
    ∙ xor-swap a (bit_xor h u) (r * 2 ^ k) (bit_xor v (z * 2 ^ k))
    ∙ ap (bit_xor (bit_xor a (r * 2 ^ k)))
    (xor_assoc h u (bit_xor v (z * 2 ^ k))
    ∙ ap (bit_xor h) (sym (xor_assoc u v (z * 2 ^ k)) ∙ ap (λ (x : ℕ). bit_xor x (z * 2 ^ k)) (whole k y)))

last-words : (k a h y : ℕ) → bit_xor (bit_xor a (bit_xor h (y % 2 ^ k))) (y / 2 ^ k * 2 ^ k) ≡ bit_xor a (bit_xor h y)
last-words k a h y = rw (zero-mul, xor_zero_r (y / 2 ^ k), xor_zero_r a, xor_zero_r y) at (next-words k a h y 0 0)

-- four words as a number, and what is added to them
abbrev pub four : ℕ → ℕ → ℕ → ℕ → ℕ
four b c d e = bit_xor b (bit_xor c (bit_xor d (e * 2 ^ 64) * 2 ^ 64) * 2 ^ 64)

abbrev pub spread : ℕ → ℕ
spread x = bit_xor (bit_xor (x * 2 ^ 17) (x * 2 ^ 55)) (bit_xor (x * 2 ^ 19) (x * 2 ^ 44 * 2 ^ 64) * 2 ^ 64)

levels : (b c d e y₂ y₃ y₄ : ℕ)
    → wide b (bit_xor c (y₂ % 2 ^ 64)) (bit_xor d (bit_xor (y₂ / 2 ^ 64) (y₃ % 2 ^ 64))) (bit_xor e (bit_xor (y₃ / 2 ^ 64) (y₄ % 2 ^ 64))) (y₄ / 2 ^ 64)
    ≡ bit_xor (four b c d e) (bit_xor y₂ (bit_xor y₃ (y₄ * 2 ^ 64) * 2 ^ 64) * 2 ^ 64)
unfolding wide
levels b c d e y₂ y₃ y₄ =
    let z : ℕ = bit_xor y₃ (y₄ * 2 ^ 64) in
    let q₂ : ℕ = bit_xor c (y₂ % 2 ^ 64) in
    let q₃ : ℕ = bit_xor d (bit_xor (y₂ / 2 ^ 64) (y₃ % 2 ^ 64)) in
    ap (λ (x : ℕ). bit_xor b (bit_xor q₂ (bit_xor q₃ (x * 2 ^ 64) * 2 ^ 64) * 2 ^ 64)) (last-words 64 e (y₃ / 2 ^ 64) y₄)
    ∙ ap (λ (x : ℕ). bit_xor b (bit_xor q₂ (x * 2 ^ 64) * 2 ^ 64)) (next-words 64 d (y₂ / 2 ^ 64) y₃ e y₄)
    ∙ ap (λ (x : ℕ). bit_xor b (x * 2 ^ 64)) (next-words 64 c 0 y₂ (bit_xor d (e * 2 ^ 64)) z)
    ∙ ap (bit_xor b) (xor-shl 64 (bit_xor c (bit_xor d (e * 2 ^ 64) * 2 ^ 64)) (bit_xor y₂ (z * 2 ^ 64)))
    ∙ sym (xor_assoc b (bit_xor c (bit_xor d (e * 2 ^ 64) * 2 ^ 64) * 2 ^ 64) (bit_xor y₂ (z * 2 ^ 64) * 2 ^ 64))

-- the five words that the code computes
abbrev pub folded_words : ℕ → ℕ → ℕ → ℕ → ℕ → ℕ
folded_words b c d e x =
    wide b (bit_xor c (bit_xor (x * 2 ^ 17 % 2 ^ 64) (x * 2 ^ 55 % 2 ^ 64)))
    (bit_xor d (bit_xor (bit_xor (x / 2 ^ 47) (x / 2 ^ 9)) (x * 2 ^ 19 % 2 ^ 64)))
    (bit_xor e (bit_xor (x / 2 ^ 45) (x * 2 ^ 44 % 2 ^ 64))) (x / 2 ^ 20)

pub words : (b c d e x : ℕ) → folded_words b c d e x ≡ bit_xor (four b c d e) (spread x * 2 ^ 64)
words b c d e x =
    let y : ℕ = bit_xor (x * 2 ^ 17) (x * 2 ^ 55) in
    ap₂
    (λ (p q : ℕ). wide b (bit_xor c p) (bit_xor d (bit_xor q (x * 2 ^ 19 % 2 ^ 64))) (bit_xor e (bit_xor (x / 2 ^ 45) (x * 2 ^ 44 % 2 ^ 64))) (x / 2 ^ 20))
    (sym (xor_mod (x * 2 ^ 17) (x * 2 ^ 55) 64))
    (ap₂ bit_xor (carry 17 47 x) (carry 55 9 x) ∙ sym (xor_shr (x * 2 ^ 17) (x * 2 ^ 55) 64))
    ∙ ap₂
    (λ (p q : ℕ). wide b (bit_xor c (y % 2 ^ 64)) (bit_xor d (bit_xor (y / 2 ^ 64) (x * 2 ^ 19 % 2 ^ 64))) (bit_xor e (bit_xor p (x * 2 ^ 44 % 2 ^ 64))) q)
    (carry 19 45 x) (carry 44 20 x)
    ∙ levels b c d e y (x * 2 ^ 19) (x * 2 ^ 44)

-- Exclusive or, digit by digit.
--   bit-cases, both_bits   what holds of the digits 0 and 1
--   xor_assoc              it is associative
--   xor-swap               (a b) (c d) to (a c) (b d)
--   xor-shl                moved up, each part is
use mathlib.Core.Path.{◌≡◌, refl, sym, ap, ap₂, ◌∙◌}
use Prim.Native.Nat.{ℕ, zero, suc, ◌+◌, ◌*◌, ◌/◌, ◌%◌, ◌^◌, ◌<◌}
use native.Mathlib.Nat.{add-zero, mod-lt}
use native.Mathlib.Omega.{arith}
use lib.Arith.{bin_ind, digits_mod}
use lib.Pow.{pow_pos}
use lib.Dec.{lit<}
use lib.Bits.{bit_xor, differ, xor_step, xor_shr, xor_comm, xor_block}

pub bit-cases : (P : ℕ → Type 0) → P 0 → P 1 → (x : ℕ) → x < 2 → P x
bit-cases P a b zero h = a
bit-cases P a b (suc zero) h = b
bit-cases P a b (suc (suc x)) h = absurd (omega arith)

pub both_bits : (P : ℕ → ℕ → Type 0) → P 0 0 → P 0 1 → P 1 0 → P 1 1 → (x y : ℕ) → x < 2 → y < 2 → P x y
both_bits P a b c d x y hx hy = bit-cases (λ (n : ℕ). P n y) (bit-cases (P 0) a b y hy) (bit-cases (P 1) c d y hy) x hx

differ-lt : (x y : ℕ) → x < 2 → y < 2 → differ x y < 2
differ-lt = both_bits (λ (x y : ℕ). differ x y < 2) (lit< tt) (lit< tt) (lit< tt) (lit< tt)

differ-assoc : (x y z : ℕ) → x < 2 → y < 2 → z < 2 → differ (differ x y) z ≡ differ x (differ y z)
differ-assoc x y z hx hy hz =
    both_bits (λ (a b : ℕ). differ (differ a b) z ≡ differ a (differ b z)) refl refl refl
    (bit-cases (λ (c : ℕ). c ≡ differ 1 (differ 1 c)) refl refl z hz) x y hx hy

low : (a : ℕ) → a % 2 < 2
low a = mod-lt a (lit< tt)

odd-xor : (a b : ℕ) → bit_xor a b % 2 ≡ differ (a % 2) (b % 2)
odd-xor a b =
    ap (λ (x : ℕ). x % 2) (xor_step a b) ∙ digits_mod (bit_xor (a / 2) (b / 2)) (differ-lt (a % 2) (b % 2) (low a) (low b))

pub xor_assoc : (a b c : ℕ) → bit_xor (bit_xor a b) c ≡ bit_xor a (bit_xor b c)
xor_assoc a =
    bin_ind (λ (n : ℕ). (b c : ℕ) → bit_xor (bit_xor n b) c ≡ bit_xor n (bit_xor b c)) (λ b c. refl)
    (λ n ih b c.
    xor_step (bit_xor n b) c
    ∙ ap₂ (λ (x y : ℕ). bit_xor x (c / 2) * 2 + differ y (c % 2)) (xor_shr n b 1) (odd-xor n b)
    ∙ ap₂ (λ (x y : ℕ). x * 2 + y) (ih (b / 2) (c / 2)) (differ-assoc (n % 2) (b % 2) (c % 2) (low n) (low b) (low c))
    ∙ sym
    (xor_step n (bit_xor b c)
    ∙ ap₂ (λ (x y : ℕ). bit_xor (n / 2) x * 2 + differ (n % 2) y) (xor_shr b c 1) (odd-xor b c)))
    a

pub xor-swap : (a b c d : ℕ) → bit_xor (bit_xor a b) (bit_xor c d) ≡ bit_xor (bit_xor a c) (bit_xor b d)
xor-swap a b c d =
    xor_assoc a b (bit_xor c d)
    ∙ ap (bit_xor a) (sym (xor_assoc b c d) ∙ ap (λ (x : ℕ). bit_xor x d) (xor_comm b c) ∙ xor_assoc c b d)
    ∙ sym (xor_assoc a c (bit_xor b d))

pub xor-shl : (k a b : ℕ) → bit_xor a b * 2 ^ k ≡ bit_xor (a * 2 ^ k) (b * 2 ^ k)
xor-shl k a b =
    sym
    (ap₂ bit_xor (sym (add-zero (a * 2 ^ k))) (sym (add-zero (b * 2 ^ k)))
    ∙ xor_block k a b 0 0 (pow_pos k) (pow_pos k) ∙ add-zero (bit_xor a b * 2 ^ k))

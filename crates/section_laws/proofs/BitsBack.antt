-- Bits, the highest first, and the bytes that state them: each gives the other back.
--   with_zeros                       the first k values, with zeros past the last
--   zeros-add, zeros-take, zeros-past   in two parts, the values, and what stands past them
--   zeros-whole, zeros-at         of k values, and one of them
--   bits_above                      bits above the low j do not count
--   bits-number, number-bits        the bits of the number of bits, and back
--   bits-bytes, bytes_bits          the bits of the bytes of bits, and back
--   bytes-stated                    bytes whose bits past n are zero are the bytes of those n
use Prim.Native.Nat.{ℕ, zero, suc, ◌+◌, ◌*◌, ◌/◌, ◌%◌, ◌^◌, ◌≤◌, ◌<◌}
use mathlib.Core.Path.{◌≡◌, refl, ap, sym, ◌∙◌}
use mathlib.Core.Bool.{true}
use mathlib.Core.List.{List, [], ◌∷◌, ◌++◌, flat_map}
use native.Mathlib.Nat.{zero-add, mul_assoc, mul-add-div_right, pow-succ'}
use native.Mathlib.Numerals.{one-add}
use native.Mathlib.Omega.{arith}
use lib.Dec.{eqb}
use lib.ListN.{length, take, drop, get_or}
use lib.Pow.{pow_pos, high, mod-pow-add}
use lib.Seq.{get_or-drop, drop_at, drop-drop}
use borrow.Author.Tests.{eqb-true}
use Rattle.format.specs.Choice.{every}
use Rattle.format.specs.Bytes.{AllBytes}
use Rattle.format.specs.Booleans.{bits_high_first, byte_of_bits, bits_of_bytes, bitmap_size, bytes_of_bits}
use Rattle.format.proofs.Tests.{both_left, both_right}
use Rattle.format.proofs.AllBelow.{below-drop}
use Rattle.section_laws.specs.Bits.{AllBits}
use Rattle.section_laws.proofs.Bits.{bits-length, number-below}

-- the first k values, with zeros past the last
abbrev pub with_zeros : (k : ℕ) → List ℕ → List ℕ
with_zeros zero vs = []
with_zeros (suc k) vs = get_or vs 0 0 ∷ with_zeros k (drop 1 vs)

pub zeros-add : (j k : ℕ) (vs : List ℕ) → with_zeros (j + k) vs ≡ with_zeros j vs ++ with_zeros k (drop j vs)
zeros-add zero k vs = rw zero-add
zeros-add (suc j) k vs =
    let e : suc j + k ≡ suc (j + k) = omega arith in
    let f : 1 + j ≡ suc j = omega arith in
    rw e (ap (λ (l : List ℕ). get_or vs 0 0 ∷ l) (zeros-add j k (drop 1 vs) ∙ rw (drop-drop, f)))

pub zeros-take : (k : ℕ) (vs : List ℕ) → length vs ≤ k → take (length vs) (with_zeros k vs) ≡ vs
zeros-take k [] h = refl
zeros-take zero (v ∷ vs) h = absurd (omega arith)
zeros-take (suc k) (v ∷ vs) h = ap (λ (l : List ℕ). v ∷ l) (zeros-take k vs (omega arith))

pub zeros-past : (k : ℕ) (vs : List ℕ) → every (eqb 0) (drop (length vs) (with_zeros k vs)) ≡ true
zeros-past zero [] = refl
zeros-past (suc k) [] = zeros-past k []
zeros-past zero (v ∷ vs) = refl
zeros-past (suc k) (v ∷ vs) = zeros-past k vs

pub zeros-whole : (k : ℕ) (vs : List ℕ) → length vs ≡ k → with_zeros k vs ≡ vs
zeros-whole zero [] h = refl
zeros-whole zero (v ∷ vs) h = absurd (omega arith)
zeros-whole (suc k) [] h = absurd (omega arith)
zeros-whole (suc k) (v ∷ vs) h = ap (λ (l : List ℕ). v ∷ l) (zeros-whole k vs (omega arith))

pub zeros-at : (k : ℕ) (vs : List ℕ) (i : ℕ) → i < k → get_or (with_zeros k vs) i 0 ≡ get_or vs i 0
zeros-at zero vs i h = absurd (omega arith)
zeros-at (suc k) vs zero h = refl
zeros-at (suc k) vs (suc i) h = let e : 1 + i ≡ suc i = omega arith in zeros-at k (drop 1 vs) i (omega arith) ∙ get_or-drop 1 vs i 0 ∙ rw e

-- bits above the low j do not count
pub bits_above : (j c b : ℕ) → bits_high_first j (c * 2 ^ j + b) ≡ bits_high_first j b
unfolding bits_high_first
bits_above zero c b = refl
bits_above (suc j) c b =
    let e : c * 2 ^ suc j ≡ c * 2 * 2 ^ j = rw (pow-succ', mul_assoc) in
    rw (e, bits_above j (c * 2) b, mul-add-div_right (pow_pos j) (c * 2) b) (ap (λ (x : ℕ). x ∷ bits_high_first j b) (omega arith))

pub bits-number : (k : ℕ) (vs : List ℕ) → AllBits vs → bits_high_first k (byte_of_bits k vs) ≡ with_zeros k vs
unfolding bits_high_first byte_of_bits
bits-number zero vs all = refl
bits-number (suc k) vs all =
    let rest = byte_of_bits k (drop 1 vs) in
    let first : (get_or vs 0 0 * 2 ^ k + rest) / 2 ^ k ≡ get_or vs 0 0 = high (get_or vs 0 0) k (number-below k (drop 1 vs) (below-drop 2 1 vs all)) in
    rw (first, bits_above k (get_or vs 0 0) rest, bits-number k (drop 1 vs) (below-drop 2 1 vs all))
    (ap (λ (x : ℕ). x ∷ with_zeros k (drop 1 vs)) (omega (arith, all 0)))

pub bits-bytes : (m : ℕ) (vs : List ℕ) → AllBits vs → bits_of_bytes (bytes_of_bits m vs) ≡ with_zeros (8 * m) vs
unfolding bytes_of_bits flat_map
bits-bytes zero vs all = refl
bits-bytes (suc m) vs all =
    let e : 8 * suc m ≡ 8 + 8 * m = omega arith in
    rw (e, zeros-add 8 (8 * m) vs, bits-number 8 vs all, bits-bytes m (drop 8 vs) (below-drop 2 8 vs all))

pub number-bits : (k b : ℕ) (bs : List ℕ) → byte_of_bits k (bits_high_first k b ++ bs) ≡ b % 2 ^ k
unfolding bits_high_first byte_of_bits
number-bits zero b bs = omega arith
number-bits (suc k) b bs = rw (number-bits k b bs) (sym (rw one-add at (mod-pow-add b 1 k)))

pub bytes_bits : (bs : List ℕ) → AllBytes bs → bytes_of_bits (length bs) (bits_of_bytes bs) ≡ bs
unfolding bytes_of_bits flat_map
bytes_bits [] all = refl
bytes_bits (b ∷ bs) all =
    let byte : byte_of_bits 8 (bits_high_first 8 b ++ bits_of_bytes bs) ≡ b = number-bits 8 b (bits_of_bytes bs) ∙ omega (arith, all 0) in
    rw (byte, drop_at (bits_high_first 8 b) (bits_of_bytes bs) 8 (bits-length 8 b)) (ap (λ (l : List ℕ). b ∷ l) (bytes_bits bs (λ i. all (suc i))))

-- two lists state the same numbers where they agree at every index
abbrev Same : List ℕ → List ℕ → Type 0
Same vs ws = (i : ℕ) → get_or vs i 0 ≡ get_or ws i 0

same_drop : (k : ℕ) (vs ws : List ℕ) → Same vs ws → Same (drop k vs) (drop k ws)
same_drop k vs ws same i = rw (get_or-drop k vs, get_or-drop k ws) (same (k + i))

number_same : (k : ℕ) (vs ws : List ℕ) → Same vs ws → byte_of_bits k vs ≡ byte_of_bits k ws
unfolding byte_of_bits
number_same zero vs ws same = refl
number_same (suc k) vs ws same = rw (same 0, number_same k (drop 1 vs) (drop 1 ws) (same_drop 1 vs ws same))

bytes_same : (m : ℕ) (vs ws : List ℕ) → Same vs ws → bytes_of_bits m vs ≡ bytes_of_bits m ws
unfolding bytes_of_bits
bytes_same zero vs ws same = refl
bytes_same (suc m) vs ws same = rw (number_same 8 vs ws same, bytes_same m (drop 8 vs) (drop 8 ws) (same_drop 8 vs ws same))

all-zero : (vs : List ℕ) → every (eqb 0) vs ≡ true → (i : ℕ) → get_or vs i 0 ≡ 0
all-zero [] e i = refl
all-zero (v ∷ vs) e zero = sym (eqb-true 0 v (both_left (eqb 0 v) (every (eqb 0) vs) e))
all-zero (v ∷ vs) e (suc i) = all-zero vs (both_right (eqb 0 v) (every (eqb 0) vs) e) i

take_same : (n : ℕ) (vs : List ℕ) → every (eqb 0) (drop n vs) ≡ true → Same (take n vs) vs
take_same zero vs e i = sym (all-zero vs e i)
take_same (suc n) [] e i = refl
take_same (suc n) (v ∷ vs) e zero = refl
take_same (suc n) (v ∷ vs) e (suc i) = take_same n vs e i

pub bytes-stated : (n : ℕ) (bs : List ℕ) → AllBytes bs → length bs ≡ bitmap_size n → every (eqb 0) (drop n (bits_of_bytes bs)) ≡ true
    → bytes_of_bits (bitmap_size n) (take n (bits_of_bytes bs)) ≡ bs
bytes-stated n bs all used-up padding =
    rw (← used-up) (bytes_same (length bs) (take n (bits_of_bytes bs)) (bits_of_bytes bs) (take_same n (bits_of_bytes bs) padding) ∙ bytes_bits bs all)

-- The register of 320 bits: a word leaves it by a multiple of the polynomial, x^300 + x^211 + x^183 + x^145 + 1, which 301 bits make zero.
--   folded     the bytes go on from the words that the code computes as from the register before eight bytes
--   narrowed   five words go by, each with what the ones before left of the register
use mathlib.Core.Path.{◌≡◌, refl, sym, ap, ap₂, ◌∙◌}
use mathlib.Core.List.{List, [], ◌∷◌, ◌++◌}
use Prim.Native.Nat.{ℕ, ◌+◌, ◌*◌, ◌^◌, ◌-◌, ◌<◌, ◌≤◌}
use native.Mathlib.Nat.{add-zero, lt_of_lt_of_le}
use native.Mathlib.Omega.{arith}
use lib.Pow.{pow_mono}
use lib.Bits.{bit_xor, xor_comm, xor_zero_r}
use lib.ListN.{length, drop, get_or}
use Rattle.std.specs.Int.{w64, from_le_bytes}
use Rattle.std.specs.List.{concat}
use Rattle.format.specs.Bytes.{AllBytes}
use Rattle.format.specs.Crc32.{shift_bits, crc_from}
use Rattle.crc32.specs.Wide.{wide}
use Rattle.crc32.proofs.Xor.{xor_assoc}
use Rattle.crc32.proofs.Runs.{bits-xor, bits-shift, bits_up, bits-add}
use Rattle.crc32.proofs.ByBytes.{eight, from-append, from-word, from-end, from-xor, from-same}
use Rattle.crc32.proofs.Multiple.{terms, multiple}
use Rattle.crc32.proofs.WideWords.{four, spread, folded_words, words}

-- ---- the multiple

-- its terms but the lowest: how far each stands below x^300
abbrev upper : List ℕ
upper = 155 ∷ 117 ∷ 89 ∷ 0 ∷ []

-- at a single bit antt computes both sides
one_bit : shift_bits 300 1 ≡ terms upper 0 1
unfolding shift_bits
one_bit = refl

five-terms : (n x : ℕ) → x < 2 ^ n → shift_bits (n + 300) x ≡ terms upper n x
five-terms = multiple 300 upper one_bit

-- what is added stands for those terms
spread-bits : (n x : ℕ) → shift_bits (n + 172) (spread x) ≡ terms upper n x
spread-bits n x =
    let z : ℕ = bit_xor (x * 2 ^ 19) (x * 2 ^ 44 * 2 ^ 64) in
    bits-xor (n + 172) (bit_xor (x * 2 ^ 17) (x * 2 ^ 55)) (z * 2 ^ 64)
    ∙ ap₂ bit_xor
    (bits-xor (n + 172) (x * 2 ^ 17) (x * 2 ^ 55)
    ∙ ap₂ bit_xor (bits_up 17 (n + 155) (n + 172) x (omega arith)) (bits_up 55 (n + 117) (n + 172) x (omega arith)))
    (bits_up 64 (n + 108) (n + 172) z (omega arith)
    ∙ bits-xor (n + 108) (x * 2 ^ 19) (x * 2 ^ 44 * 2 ^ 64)
    ∙ ap₂ bit_xor (bits_up 19 (n + 89) (n + 108) x (omega arith))
    (bits_up 64 (n + 44) (n + 108) (x * 2 ^ 44) (omega arith) ∙ bits_up 44 n (n + 44) x (omega arith)))
    ∙ rw (xor_zero_r, add-zero) (xor_assoc (shift_bits (n + 155) x) (shift_bits (n + 117) x) (bit_xor (shift_bits (n + 89) x) (shift_bits n x)))

-- ---- the code's steps

-- a word met by the low word alone
met-low : (a r w : ℕ) → bit_xor (bit_xor a (r * 2 ^ 64)) w ≡ bit_xor (bit_xor a w) (r * 2 ^ 64)
met-low a r w =
    xor_assoc a (r * 2 ^ 64) w ∙ ap (bit_xor a) (xor_comm (r * 2 ^ 64) w) ∙ sym (xor_assoc a w (r * 2 ^ 64))

-- the words that the code computes stand for the register after 64 bits: 300 bits later no difference is left
folds : (a b c d e w m : ℕ) → bit_xor a w < 2 ^ 64 → 300 ≤ m
    → shift_bits (64 + m) (bit_xor (wide a b c d e) w) ≡ shift_bits m (folded_words b c d e (bit_xor a w))
unfolding wide
folds a b c d e w m h l =
    let x : ℕ = bit_xor a w in
    let r : ℕ = four b c d e in
    let n : ℕ = m - 236 in
    let p : m ≡ 64 + (n + 172) = omega arith in
    let q : n + 300 ≡ 64 + m = omega arith in
    let le : 64 ≤ n = omega arith in
    ap (shift_bits (64 + m)) (met-low a r w)
    ∙ bits-xor (64 + m) x (r * 2 ^ 64)
    ∙ ap (bit_xor (shift_bits (64 + m) x)) (bits_up 64 m (64 + m) r refl)
    ∙ xor_comm (shift_bits (64 + m) x) (shift_bits m r)
    ∙ ap (bit_xor (shift_bits m r))
    (sym (ap (λ (k : ℕ). shift_bits k x) q)
    ∙ five-terms n x (lt_of_lt_of_le h (pow_mono le)) ∙ sym (bits_up 64 (n + 172) m (spread x) p ∙ spread-bits n x))
    ∙ sym (ap (shift_bits m) (words b c d e x) ∙ bits-xor m r (spread x * 2 ^ 64))

pub folded : (a b c d e w : ℕ) (bs rest : List ℕ) → AllBytes bs → length bs ≡ 8 → w ≡ from_le_bytes w64 bs → bit_xor a w < 2 ^ 64 → 40 ≤ length rest
    → crc_from (folded_words b c d e (bit_xor a w)) rest ≡ crc_from (wide a b c d e) (bs ++ rest)
folded a b c d e w bs rest h l is_word fits long =
    let r : ℕ = wide a b c d e in
    let m : ℕ = 8 * length rest in
    sym
    (from-append bs rest r
    ∙ ap (λ (x : ℕ). crc_from x rest) (eight r bs h l ∙ ap (λ (n : ℕ). shift_bits 64 (bit_xor r n)) (sym is_word))
    ∙ from-same rest (shift_bits 64 (bit_xor r w)) (folded_words b c d e (bit_xor a w))
    (sym (bits-add 64 m (bit_xor r w)) ∙ folds a b c d e w m fits (omega arith)))

-- the low word goes by, and the others move down
narrows : (a r : ℕ) (bs : List ℕ) → length bs ≡ 8 → crc_from (bit_xor a (r * 2 ^ 64)) bs ≡ bit_xor (crc_from a bs) r
narrows a r bs l =
    from-xor bs a (r * 2 ^ 64)
    ∙ ap (bit_xor (crc_from a bs)) (ap (λ (n : ℕ). shift_bits (8 * n) (r * 2 ^ 64)) l ∙ bits-shift 64 r)

narrows-to : (a b r : ℕ) (bs : List ℕ) → length bs ≡ 8
    → crc_from (bit_xor a (bit_xor b (r * 2 ^ 64) * 2 ^ 64)) bs ≡ bit_xor (bit_xor (crc_from a bs) b) (r * 2 ^ 64)
narrows-to a b r bs l = narrows a (bit_xor b (r * 2 ^ 64)) bs l ∙ sym (xor_assoc (crc_from a bs) b (r * 2 ^ 64))

pub narrowed : (a b c d e v w x y z : ℕ) (ws : List (List ℕ)) → length ws ≡ 5 → ((i : ℕ) → i < length ws → length (get_or ws i []) ≡ 8)
    → v ≡ crc_from a (get_or ws 0 []) → w ≡ crc_from (bit_xor v b) (get_or ws 1 []) → x ≡ crc_from (bit_xor w c) (get_or ws 2 [])
    → y ≡ crc_from (bit_xor x d) (get_or ws 3 []) → z ≡ crc_from (bit_xor y e) (get_or ws 4 [])
    → z ≡ crc_from (wide a b c d e) (concat ws)
unfolding wide
narrowed a b c d e v w x y z ws five eights ev ew ex ey ez =
    sym
    (from-word ws 0 (wide a b c d e) (omega arith)
    ∙ ap (λ (q : ℕ). crc_from q (concat (drop 1 ws)))
    (narrows-to a b (bit_xor c (bit_xor d (e * 2 ^ 64) * 2 ^ 64)) (get_or ws 0 []) (eights 0 (omega arith)) ∙ ap (λ (q : ℕ). bit_xor (bit_xor q b) (bit_xor c (bit_xor d (e * 2 ^ 64) * 2 ^ 64) * 2 ^ 64)) (sym ev))
    ∙ from-word ws 1 (bit_xor (bit_xor v b) (bit_xor c (bit_xor d (e * 2 ^ 64) * 2 ^ 64) * 2 ^ 64)) (omega arith)
    ∙ ap (λ (q : ℕ). crc_from q (concat (drop 2 ws)))
    (narrows-to (bit_xor v b) c (bit_xor d (e * 2 ^ 64)) (get_or ws 1 []) (eights 1 (omega arith)) ∙ ap (λ (q : ℕ). bit_xor (bit_xor q c) (bit_xor d (e * 2 ^ 64) * 2 ^ 64)) (sym ew))
    ∙ from-word ws 2 (bit_xor (bit_xor w c) (bit_xor d (e * 2 ^ 64) * 2 ^ 64)) (omega arith)
    ∙ ap (λ (q : ℕ). crc_from q (concat (drop 3 ws)))
    (narrows-to (bit_xor w c) d e (get_or ws 2 []) (eights 2 (omega arith)) ∙ ap (λ (q : ℕ). bit_xor (bit_xor q d) (e * 2 ^ 64)) (sym ex))
    ∙ from-word ws 3 (bit_xor (bit_xor x d) (e * 2 ^ 64)) (omega arith)
    ∙ ap (λ (q : ℕ). crc_from q (concat (drop 4 ws)))
    (narrows (bit_xor x d) e (get_or ws 3 []) (eights 3 (omega arith)) ∙ ap (λ (q : ℕ). bit_xor q e) (sym ey))
    ∙ from-word ws 4 (bit_xor y e) (omega arith)
    ∙ ap (λ (q : ℕ). crc_from q (concat (drop 5 ws))) (sym ez)
    ∙ from-end ws 5 z (omega arith))

-- The register after the bytes of a list.
--   eight                     eight bytes go by as one word
--   from-none, from-byte, from-append, next-word, from-word   what is left of a list: nothing, a byte, bytes, a word
--   from-xor                  a further register runs beside the bytes
--   from-same                 registers that agree after the bits of a list agree after its bytes
--   crc32-below               the checksum has 32 bits
use mathlib.Core.Path.{◌≡◌, refl, sym, ap, ap₂, ◌∙◌}
use mathlib.Core.List.{List, [], ◌∷◌, ◌++◌}
use Prim.Native.Nat.{ℕ, zero, suc, ◌+◌, ◌-◌, ◌*◌, ◌^◌, ◌<◌, ◌≤◌}
use native.Mathlib.Nat.{add_comm}
use native.Mathlib.Numerals.{add-one}
use native.Mathlib.Omega.{arith}
use lib.Dec.{lit<}
use lib.Bits.{bit_xor, xor_lt, xor_comm, xor_shifted, xor_zero_l, xor_zero_r}
use lib.ListN.{length, take, drop, get_or, drop_of_length-le}
use lib.Seq.{drop-cons}
use Rattle.std.specs.Int.{w64, from_le_bytes}
use Rattle.std.specs.List.{concat}
use Rattle.std.specs.Simd.{first_chunks}
use Rattle.std.proofs.lemmas.List.{append_assoc, take-append-drop, length-append, length-drop, drop-drop, get_or-drop}
use Rattle.format.specs.Bytes.{AllBytes}
use Rattle.format.specs.Crc32.{shift_bits, crc_from, crc32}
use Rattle.crc32.proofs.Xor.{xor_assoc}
use Rattle.crc32.proofs.Runs.{bits_none, bits-xor, bits-add, bits-later, bits-lt}

-- ---- bytes as one number

-- the bytes of a list as a number, the low byte first
abbrev low : List ℕ → ℕ
low [] = 0
low (b ∷ bs) = b + low bs * 2 ^ 8

low-next : (bs : List ℕ) (i : ℕ) → i < length bs → low (drop i bs) ≡ get_or bs i 0 + low (drop (suc i) bs) * 2 ^ 8
low-next bs i h = ap low (drop-cons bs i 0 h)

at_once : (bs : List ℕ) (r : ℕ) → AllBytes bs → crc_from r bs ≡ shift_bits (8 * length bs) (bit_xor r (low bs))
unfolding crc_from
at_once [] r h = sym (bits_none (bit_xor r 0) ∙ xor_zero_r r)
at_once (b ∷ bs) r h =
    let join : bit_xor b (low bs * 2 ^ 8) ≡ b + low bs * 2 ^ 8 =
    xor_comm b (low bs * 2 ^ 8) ∙ xor_shifted (low bs) 8 b (h 0) ∙ add_comm (low bs * 2 ^ 8) b in
    let more : 8 + 8 * length bs ≡ 8 * suc (length bs) = omega arith in
    at_once bs (shift_bits 8 (bit_xor r b)) (λ i. h (suc i))
    ∙ bits-later 8 (8 * length bs) (bit_xor r b) (low bs)
    ∙ ap₂ shift_bits more (xor_assoc r b (low bs * 2 ^ 8) ∙ ap (bit_xor r) join)

pub eight : (r : ℕ) (bs : List ℕ) → AllBytes bs → length bs ≡ 8 → crc_from r bs ≡ shift_bits 64 (bit_xor r (from_le_bytes w64 bs))
eight r bs h l =
    let word : low bs ≡ from_le_bytes w64 bs =
    omega (
      arith,
      low-next bs 0,
      low-next bs 1,
      low-next bs 2,
      low-next bs 3,
      low-next bs 4,
      low-next bs 5,
      low-next bs 6,
      low-next bs 7,
      ap low (drop_of_length-le bs {i = 8} (omega arith)),
    ) in
    at_once bs r h ∙ ap₂ (λ (n w : ℕ). shift_bits (8 * n) (bit_xor r w)) l word

-- ---- bytes after bytes

pub from-none : (bs : List ℕ) (i r : ℕ) → length bs ≤ i → r ≡ crc_from r (drop i bs)
unfolding crc_from
from-none bs i r h = rw (drop_of_length-le bs {i = i} h)

pub from-byte : (bs : List ℕ) (i r : ℕ) → i < length bs
    → crc_from r (drop i bs) ≡ crc_from (shift_bits 8 (bit_xor r (get_or bs i 0))) (drop (i + 1) bs)
unfolding crc_from
from-byte bs i r h = rw (add-one, drop-cons bs i 0 h)

pub from-append : (front bs : List ℕ) (r : ℕ) → crc_from r (front ++ bs) ≡ crc_from (crc_from r front) bs
unfolding crc_from
from-append [] bs r = refl
from-append (b ∷ front) bs r = from-append front bs (shift_bits 8 (bit_xor r b))

pub next-word : (ws : List (List ℕ)) (i : ℕ) → i < length ws → concat (drop i ws) ≡ get_or ws i [] ++ concat (drop (i + 1) ws)
next-word ws i h = rw (add-one, drop-cons ws i [] h)

pub length-words : (ws : List (List ℕ)) → ((i : ℕ) → i < length ws → length (get_or ws i []) ≡ 8) → length (concat ws) ≡ 8 * length ws
length-words [] h = refl
length-words (w ∷ ws) h =
    let more : length (concat ws) ≡ 8 * length ws = length-words ws (λ i l. h (suc i) (omega arith)) in
    length-append w (concat ws) ∙ omega (arith, h 0 (omega arith))

pub words-left : (ws : List (List ℕ)) (i : ℕ) → ((j : ℕ) → j < length ws → length (get_or ws j []) ≡ 8) → length (concat (drop i ws)) ≡ 8 * (length ws - i)
words-left ws i h =
    length-words (drop i ws) (λ j l. ap (λ (w : List ℕ). length w) (get_or-drop i ws j []) ∙ h (i + j) (omega (arith, length-drop i ws)))
    ∙ ap (λ (n : ℕ). 8 * n) (length-drop i ws)

pub chunks : (k : ℕ) (bs : List ℕ) → concat (first_chunks 8 k bs) ++ drop (k * 8) bs ≡ bs
chunks zero bs = refl
chunks (suc k) bs =
    append_assoc (take 8 bs) (concat (first_chunks 8 k (drop 8 bs))) (drop (suc k * 8) bs)
    ∙ ap (◌++◌ (take 8 bs)) (ap (◌++◌ (concat (first_chunks 8 k (drop 8 bs)))) (ap (λ (n : ℕ). drop n bs) (omega arith) ∙ sym (drop-drop (k * 8) 8 bs)) ∙ chunks k (drop 8 bs))
    ∙ take-append-drop 8 bs

pub from-end : (ws : List (List ℕ)) (i r : ℕ) → length ws ≤ i → crc_from r (concat (drop i ws)) ≡ r
unfolding crc_from
from-end ws i r h = rw (drop_of_length-le ws {i = i} h)

pub from-word : (ws : List (List ℕ)) (i r : ℕ) → i < length ws
    → crc_from r (concat (drop i ws)) ≡ crc_from (crc_from r (get_or ws i [])) (concat (drop (i + 1) ws))
from-word ws i r h = rw (next-word ws i h) (from-append (get_or ws i []) (concat (drop (i + 1) ws)) r)

-- ---- two registers

-- a further register runs beside the bytes
pub from-xor : (bs : List ℕ) (r q : ℕ) → crc_from (bit_xor r q) bs ≡ bit_xor (crc_from r bs) (shift_bits (8 * length bs) q)
unfolding crc_from shift_bits
from-xor [] r q = refl
from-xor (b ∷ bs) r q =
    let e : 8 + 8 * length bs ≡ 8 * suc (length bs) = omega arith in
    ap (λ (x : ℕ). crc_from x bs)
    (ap (shift_bits 8) (xor_assoc r q b ∙ ap (bit_xor r) (xor_comm q b) ∙ sym (xor_assoc r b q)) ∙ bits-xor 8 (bit_xor r b) q)
    ∙ from-xor bs (shift_bits 8 (bit_xor r b)) (shift_bits 8 q)
    ∙ ap (bit_xor (crc_from (shift_bits 8 (bit_xor r b)) bs)) (sym (bits-add 8 (8 * length bs) q) ∙ ap (λ (n : ℕ). shift_bits n q) e)

pub from-same : (bs : List ℕ) (r q : ℕ) → shift_bits (8 * length bs) r ≡ shift_bits (8 * length bs) q → crc_from r bs ≡ crc_from q bs
from-same bs r q e =
    ap (λ (x : ℕ). crc_from x bs) (sym (xor_zero_l r))
    ∙ from-xor bs 0 r ∙ ap (bit_xor (crc_from 0 bs)) e ∙ sym (from-xor bs 0 q)
    ∙ ap (λ (x : ℕ). crc_from x bs) (xor_zero_l q)

-- ---- the checksum has 32 bits

from-lt : (bs : List ℕ) (r : ℕ) → r < 2 ^ 32 → AllBytes bs → crc_from r bs < 2 ^ 32
unfolding crc_from
from-lt [] r h g = h
from-lt (b ∷ bs) r h g =
    from-lt bs (shift_bits 8 (bit_xor r b)) (bits-lt 8 (bit_xor r b) (xor_lt 32 r b h (omega (arith, g 0)))) (λ i. g (suc i))

pub crc32-below : (bs : List ℕ) → AllBytes bs → crc32 bs < 2 ^ 32
crc32-below bs g = xor_lt 32 (crc_from 0xFFFF_FFFF bs) 0xFFFF_FFFF (from-lt bs 0xFFFF_FFFF (lit< tt) g) (lit< tt)

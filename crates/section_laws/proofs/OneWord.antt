-- One packed word: it opens to the numbers that were packed, and what a word that is read holds.
--   At any width and count
--     bits_for                    the 60 bits of a selector's numbers
--     all_fit                    numbers that fit a width are below its power
--     bits_for-below, selector_numbers-bits_for, bits_for-selector_numbers, selector_numbers-length, selector_numbers-below
--   A word of selector p whose numbers fit
--     word_for-selector, word_for-below, word_opens-word_for, word_numbers-word_for
--   A word that is read
--     selector-known             its selector is one of the table
--     word_numbers-length, word_numbers-most, word_numbers-below   how many numbers, and how large
--     word_for-word_numbers        it is the word of its selector and numbers
use Prim.Native.Nat.{ℕ, zero, suc, ◌*◌, ◌/◌, ◌%◌, ◌^◌, ◌≤◌, ◌<◌}
use mathlib.Core.Path.{◌≡◌, refl, ap₂, sym, subst}
use mathlib.Core.Bool.{true}
use mathlib.Core.List.{List, [], ◌∷◌}
use native.Mathlib.Nat.{lt_of_lt_of_le, mul-zero}
use native.Mathlib.Omega.{arith}
use lib.ListN.{length, take, replicate, length-replicate}
use lib.Seq.{length-take-le, take_all}
use lib.Pow.{pow_pos, pow_mono, low, high, split}
use lib.Dec.{eqb, ltb, leb, lit<}
use borrow.Author.Tests.{leb-true, ltb-true, eqb-true, lt-ltb, ne_eqb}
use Rattle.std.specs.Prelude.{if◌then◌else◌}
use Rattle.format.specs.Choice.{every}
use Rattle.format.specs.Bytes.{AllBelow}
use Rattle.format.specs.Simple8b.{selector_count, selector_width, pack, unpack, word_opens, selector_numbers, word_numbers, fits_width, word_for}
use Rattle.format.proofs.AllBelow.{below-nil, below-cons, below-of-every}
use Rattle.format.proofs.Tests.{both_left, both_right, every-imply}
use Rattle.section_laws.proofs.Packs.{unpack-pack, pack-below, pack-unpack, unpack-length, unpack-below}
use Rattle.section_laws.proofs.Selectors.{count_most, width-most, used-most, fits_selector}

-- ---- the bits of a selector's numbers, at any width and count

-- the 60 bits of numbers of a width: none for a word of ones
abbrev pub bits_for : (width : ℕ) → List ℕ → ℕ
bits_for width xs = if eqb width 0 then 0 else pack width xs

-- what fits a width above 0 is below its power
pub all_fit : (w : ℕ) (xs : List ℕ) → every (fits_width (suc w)) xs ≡ true → AllBelow (2 ^ suc w) xs
all_fit w xs e =
    below-of-every (2 ^ suc w) (pow_pos (suc w)) xs
    (every-imply (fits_width (suc w)) (λ x. ltb x (2 ^ suc w)) (λ x h. rw (ne_eqb (suc w) 0 (λ z. omega arith)) at h) xs e)

ones : (xs : List ℕ) → every (fits_width 0) xs ≡ true → replicate (length xs) 1 ≡ xs
ones [] e = refl
ones (x ∷ xs) e = ap₂ (λ (y : ℕ) (ys : List ℕ). y ∷ ys) (sym (eqb-true x 1 (both_left (eqb x 1) _ e))) (ones xs (both_right (eqb x 1) _ e))

pub bits_for-below : (w : ℕ) (xs : List ℕ) → every (fits_width w) xs ≡ true → bits_for w xs < 2 ^ (length xs * w)
bits_for-below zero xs e = pow_pos (length xs * 0)
bits_for-below (suc w) xs e = rw (ne_eqb (suc w) 0 (λ z. omega arith)) (pack-below (suc w) xs (all_fit w xs e))

pub selector_numbers-bits_for : (w : ℕ) (xs : List ℕ) → every (fits_width w) xs ≡ true → selector_numbers (length xs) w (bits_for w xs) ≡ xs
selector_numbers-bits_for zero xs e = ones xs e
selector_numbers-bits_for (suc w) xs e = rw (ne_eqb (suc w) 0 (λ z. omega arith)) (unpack-pack (suc w) xs (all_fit w xs e))

pub bits_for-selector_numbers : (w k n : ℕ) → n < 2 ^ (k * w) → bits_for w (selector_numbers k w n) ≡ n
bits_for-selector_numbers zero k n h = let none : n < 2 ^ 0 = rw mul-zero at h in omega arith
bits_for-selector_numbers (suc w) k n h = rw (ne_eqb (suc w) 0 (λ z. omega arith)) (pack-unpack (suc w) k n h)

pub selector_numbers-length : (w k n : ℕ) → length (selector_numbers k w n) ≡ k
selector_numbers-length zero k n = length-replicate k 1
selector_numbers-length (suc w) k n = rw (ne_eqb (suc w) 0 (λ z. omega arith)) (unpack-length (suc w) k n)

-- numbers of a selector's width are below 2^60
narrow : (w : ℕ) (xs : List ℕ) → w ≤ 60 → AllBelow (2 ^ w) xs → AllBelow (2 ^ 60) xs
narrow w xs h l i = lt_of_lt_of_le (l i) (pow_mono h)

ones_below : (k : ℕ) → AllBelow (2 ^ 60) (replicate k 1)
ones_below zero = below-nil (2 ^ 60) (lit< tt)
ones_below (suc k) = below-cons (2 ^ 60) 1 (replicate k 1) (lit< tt) (ones_below k)

pub selector_numbers-below : (w k n : ℕ) → w ≤ 60 → AllBelow (2 ^ 60) (selector_numbers k w n)
selector_numbers-below zero k n h = ones_below k
selector_numbers-below (suc w) k n h =
    rw (ne_eqb (suc w) 0 (λ z. omega arith)) (narrow (suc w) (unpack (suc w) k n) h (unpack-below (suc w) k n))

-- ---- the word of a selector that fits

module _ (p : ℕ) (xs : List ℕ) (known : p < 16) (fits : fits_selector p xs ≡ true) where
  full : length (take (selector_count p) xs) ≡ selector_count p
  full = length-take-le (selector_count p) xs (leb-true (selector_count p) (length xs) (both_left (leb (selector_count p) (length xs)) _ fits))

  held : every (fits_width (selector_width p)) (take (selector_count p) xs) ≡ true
  held = both_right (leb (selector_count p) (length xs)) (every (fits_width (selector_width p)) (take (selector_count p) xs)) fits

  used : bits_for (selector_width p) (take (selector_count p) xs) < 2 ^ (selector_count p * selector_width p)
  used = rw full at (bits_for-below (selector_width p) (take (selector_count p) xs) held)

  within : bits_for (selector_width p) (take (selector_count p) xs) < 2 ^ 60
  within = lt_of_lt_of_le used (pow_mono (used-most p known))

  pub word_for-selector : word_for p xs / 2 ^ 60 ≡ p
  unfolding word_for
  word_for-selector = high p 60 within

  word_for-bits : word_for p xs % 2 ^ 60 ≡ bits_for (selector_width p) (take (selector_count p) xs)
  unfolding word_for
  word_for-bits = low p 60 within

  pub word_for-below : word_for p xs < 2 ^ 64
  unfolding word_for
  word_for-below = omega (arith, within, known)

  pub word_opens-word_for : word_opens (word_for p xs) ≡ true
  unfolding word_opens
  word_opens-word_for = rw (word_for-selector, word_for-bits) (lt-ltb _ _ used)

  pub word_numbers-word_for : word_numbers (word_for p xs) ≡ take (selector_count p) xs
  unfolding word_numbers
  word_numbers-word_for =
      rw (word_for-selector, word_for-bits)
      (subst (λ (k : ℕ). selector_numbers k (selector_width p) (bits_for (selector_width p) (take (selector_count p) xs)) ≡ take (selector_count p) xs) full
      (selector_numbers-bits_for (selector_width p) (take (selector_count p) xs) held))

-- ---- a word that is read

module _ (word : ℕ) where
  pub word_numbers-length : length (word_numbers word) ≡ selector_count (word / 2 ^ 60)
  unfolding word_numbers
  word_numbers-length = selector_numbers-length (selector_width (word / 2 ^ 60)) (selector_count (word / 2 ^ 60)) (word % 2 ^ 60)

  module _ (fits : word < 2 ^ 64) where
    pub selector-known : word / 2 ^ 60 < 16
    selector-known = omega arith

    pub word_numbers-most : length (word_numbers word) ≤ 240
    word_numbers-most = rw word_numbers-length (count_most (word / 2 ^ 60) selector-known)

    pub word_numbers-below : AllBelow (2 ^ 60) (word_numbers word)
    unfolding word_numbers
    word_numbers-below =
        selector_numbers-below (selector_width (word / 2 ^ 60)) (selector_count (word / 2 ^ 60)) (word % 2 ^ 60) (width-most (word / 2 ^ 60) selector-known)

  -- a word that opens is the word of its selector and numbers
  pub word_for-word_numbers : word_opens word ≡ true → word_for (word / 2 ^ 60) (word_numbers word) ≡ word
  unfolding word_opens word_for word_numbers
  word_for-word_numbers e =
      rw (
        take_all (selector_count (word / 2 ^ 60)) (word_numbers word) (omega (arith, word_numbers-length)),
        bits_for-selector_numbers (selector_width (word / 2 ^ 60)) (selector_count (word / 2 ^ 60)) (word % 2 ^ 60) (ltb-true _ _ e),
      )
      (split word 60)

-- The numbers of words, counted by the selectors alone.
--   Counted     the state of the loop: those counted and those of the words left are all of them
--   counted-next, counted-more, counted-end   step by step
use mathlib.Core.Path.{◌≡◌}
use mathlib.Core.List.{List, [], ◌++◌, flat_map}
use Prim.Native.Nat.{ℕ, ◌+◌, ◌/◌, ◌%◌, ◌^◌, ◌<◌}
use native.Mathlib.Omega.{arith}
use lib.ListN.{length}
use Rattle.format.specs.Bytes.{big_endian}
use Rattle.format.specs.Simple8b.{word_numbers, words_numbers}
use Rattle.simple8b.specs.declared.Selector.{Selector}
use Rattle.simple8b.specs.Selectors.{selector_of}
use Rattle.simple8b.proofs.Words.{count_of}
use Rattle.simple8b.proofs.Unpacking.{next-counts, next-whole, none-left}

-- s the bytes: the words before the rest hold count numbers
pub record Counted (s : List ℕ) (count : ℕ) (rest : List ℕ) : Type 0 where
  pub whole : length rest % 8 ≡ 0
  pub counts : count + length (words_numbers rest) ≡ length (words_numbers s)

module _ {s : List ℕ} {count : ℕ} {rest : List ℕ} (u : Counted s count rest) where
  pub counted-end : length rest < 8 → count ≡ length (words_numbers s)
  unfolding flat_map
  counted-end h =
      let z : rest ≡ [] = none-left u.whole h in
      let n : length (words_numbers rest) ≡ 0 = rw z in
      omega (arith, u.counts)

  module _ (w left : List ℕ) (e : rest ≡ w ++ left) (eight : length w ≡ 8) (word : ℕ) (is : word ≡ big_endian w) (r : Selector) (f : r ≡ selector_of (word / 2 ^ 60)) where
    pub counted-next : count + r.count + length (words_numbers left) ≡ length (words_numbers s)
    counted-next =
        let c : r.count ≡ length (word_numbers (big_endian w)) = rw is at (count_of word r f) in
        omega (arith, u.counts, next-counts w left rest e eight, c)

    pub counted-more : Counted s (count + r.count) left
    counted-more = record { whole = next-whole w left rest e eight u.whole; counts = counted-next }

-- A part of a list, from place `from` up to place `to`: `take (to - from) (drop from xs)`, for which `part` stands.
--   drop-take                          the same part, taken first
--   part-rest                          to the end
--   part-whole, part_none, part-next   from the start, nothing, and the first element of a part
--   part-drop, part_length             what is left of a part, and how long it is
--   every-next                         a test of a part, by its first element
use Prim.Native.Nat.{ℕ, zero, suc, ◌+◌, ◌-◌, ◌≤◌, ◌<◌}
use mathlib.Core.Path.{◌≡◌, sym, ◌∙◌}
use mathlib.Core.Bool.{Bool, ◌&&◌}
use mathlib.Core.List.{List, [], ◌∷◌}
use native.Mathlib.Numerals.{add-one}
use native.Mathlib.Omega.{arith}
use lib.ListN.{length, take, drop, get_or, length-take, length-drop}
use lib.Seq.{drop-cons, drop-drop, take-nil, take_all}
use Rattle.format.specs.Choice.{every}

module _ {A : Type 0} where
  pub drop-take : (n m : ℕ) (xs : List A) → drop n (take m xs) ≡ take (m - n) (drop n xs)
  drop-take zero m xs = let e : m - 0 ≡ m = omega arith in rw e
  drop-take (suc n) zero xs = let e : 0 - suc n ≡ 0 = omega arith in rw e
  drop-take (suc n) (suc m) [] = sym (take-nil (suc m - suc n))
  drop-take (suc n) (suc m) (x ∷ xs) = let e : suc m - suc n ≡ m - n = omega arith in rw e (drop-take n m xs)

  module _ (xs : List A) where
    pub part-whole : (to : ℕ) → take (to - 0) (drop 0 xs) ≡ take to xs
    part-whole to = let e : to - 0 ≡ to = omega arith in rw e

    pub part-rest : (from : ℕ) → take (length xs - from) (drop from xs) ≡ drop from xs
    part-rest from = take_all (length xs - from) (drop from xs) (omega (arith, length-drop from xs))

    pub part_none : (from to : ℕ) → to ≤ from → take (to - from) (drop from xs) ≡ []
    part_none from to h = let e : to - from ≡ 0 = omega arith in rw e

    pub part-next : (d : A) (from to : ℕ) → from < to → to ≤ length xs
        → take (to - from) (drop from xs) ≡ get_or xs from d ∷ take (to - (from + 1)) (drop (from + 1) xs)
    part-next d from to h inside =
        let more : to - from ≡ suc (to - (from + 1)) = omega arith in
        let there : from < length xs = omega arith in
        rw (more, drop-cons xs from d, add-one from)

    pub part-drop : (n from to : ℕ) → drop n (take (to - from) (drop from xs)) ≡ take (to - (from + n)) (drop (from + n) xs)
    part-drop n from to =
        let e : to - from - n ≡ to - (from + n) = omega arith in
        drop-take n (to - from) (drop from xs) ∙ rw (drop-drop n from xs, e)

    pub part_length : (from to : ℕ) → to ≤ length xs → length (take (to - from) (drop from xs)) ≡ to - from
    part_length from to h = simp (length-take, length-drop) (omega arith)

    -- a test of a part, by its first element
    pub every-next : (p : A → Bool) (d : A) (from to : ℕ) → from < to → to ≤ length xs
        → every p (take (to - from) (drop from xs)) ≡ p (get_or xs from d) && every p (take (to - (from + 1)) (drop (from + 1) xs))
    every-next p d from to h inside = rw (part-next d from to h inside)

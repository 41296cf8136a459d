-- The search for the exponent: the differences before a place are divided by its power of ten, and no larger one divides all.
--   find-nothing, find_first   there is no difference, or ten does not divide the first
--   Finding, find-start, find-less, find-end, find_none   the state of the search
use mathlib.Core.Path.{◌≡◌, refl, sym, ap, subst, ◌∙◌}
use mathlib.Core.Bool.{Bool, true, false, not}
use mathlib.Core.List.{List, [], ◌∷◌}
use Prim.Native.Nat.{ℕ, zero, suc, ◌-◌, ◌%◌, ◌^◌, ◌≤◌, ◌<◌}
use native.Mathlib.Omega.{arith}
use borrow.Author.Tests.{eqb-true, ltb-false, not-true, not-false}
use lib.Dec.{eqb}
use Rattle.std.proofs.Common.{nat_lt, cond}
use Rattle.std.proofs.lemmas.List.{take_rest, take_all}
use Rattle.std.proofs.lemmas.List.Sums.{prefix_len_passes}
use lib.ListN.{length, take, drop, get_or, length-drop}
use Rattle.std.specs.List.{position, prefix_len}
use Rattle.std.specs.declared.option.Option.TheVariants.{Some, None}
use Rattle.std.proofs.lemmas.List.Quantifiers.{position-Some}
use Rattle.format.specs.Choice.{every}
use Rattle.format.specs.Timestamps.{exponent}
use Rattle.format.proofs.Tests.{never, both_left, both_right, both_true, every-at}
use Rattle.section_laws.proofs.Exponents.{divides, exponent-most, exponent-divides, exponent-largest, divides-less}
use Rattle.timestamps_writer.specs.Writing.{undivided_place}

-- ---- the differences that a power divides

-- a test that the first elements pass is one of those past them
every_past : {A : Type 0} (p : A → Bool) (k : ℕ) (xs : List A) → every p (take k xs) ≡ true → every p (drop k xs) ≡ every p xs
every_past p zero xs h = refl
every_past p (suc k) [] h = refl
every_past p (suc k) (x ∷ xs) h = rw (both_left (p x) _ h) (every_past p k xs (both_right (p x) _ h))

-- elements that each pass
front-passes : (p : ℕ → Bool) (k : ℕ) (xs : List ℕ) → ((i : ℕ) → i < k → not (p (get_or xs i 0)) ≡ false) → every p (take k xs) ≡ true
front-passes p zero xs h = refl
front-passes p (suc k) [] h = refl
front-passes p (suc k) (x ∷ xs) h = both_true (not-false (p x) (h 0 (omega arith))) (front-passes p k xs (λ i l. h (suc i) (omega arith)))

-- no element fails
all-pass : (p : ℕ → Bool) (xs : List ℕ) → position (λ x. not (p x)) xs ≡ None → every p xs ≡ true
all-pass p xs none =
    let whole = past (prefix_len (λ x. not (not (p x))) xs) (length xs) none in
    subst (λ (ys : List ℕ). every p ys ≡ true) (take_all _ xs whole)
    (front-passes p (prefix_len (λ x. not (not (p x))) xs) xs (λ i l. not-true _ (prefix_len_passes (λ x. not (not (p x))) xs i 0 l)))
  where
    by : (t : Bool) (a : ℕ) → cond t (Some a) None ≡ None → t ≡ false
    by true a e = cc
    by false a e = refl

    past : (a b : ℕ) → cond (nat_lt a b) (Some a) None ≡ None → b ≤ a
    past a b e = ltb-false a b (by _ a e)

-- ---- the search

pub find-nothing : (ds : List ℕ) → length ds ≡ 0 → 12 ≡ exponent 12 ds
unfolding exponent
find-nothing [] h = refl
find-nothing (d ∷ ds) h = absurd (omega arith)

-- ten does not divide the first difference, so no larger power divides it
pub find_first : (ds : List ℕ) → 0 < length ds → (get_or ds 0 0 % 10 ≡ 0 → ⊥) → 0 ≡ exponent 12 ds
find_first ds some none = go (exponent 12 ds) refl
  where
    go : (e : ℕ) → exponent 12 ds ≡ e → 0 ≡ e
    go zero same = refl
    go (suc e) same =
        let ten = divides-less (suc e) 1 ds (omega arith) (rw same at (exponent-divides ds 12)) in
        absurd (none (eqb-true (get_or ds 0 0 % 10 ^ 1) 0 (every-at (λ d. eqb (d % 10 ^ 1) 0) ds 0 0 ten some)))

-- e is the largest exponent that is left, and `rest` the differences that no larger one passed
pub record Finding (ds : List ℕ) (e : ℕ) (rest : List ℕ) : Type 0 where
  pub most : e ≤ 12
  pub size : length rest ≤ length ds
  pub same : (j : ℕ) → j ≤ e → divides j rest ≡ divides j ds
  pub upper : (j : ℕ) → j ≤ 12 → divides j ds ≡ true → j ≤ e

pub find-start : (ds : List ℕ) → Finding ds 12 ds
find-start ds = record { most = omega arith; size = omega arith; same = λ j h. refl; upper = λ j h d. h }

module _ {ds : List ℕ} {e : ℕ} {rest : List ℕ} (s : Finding ds e rest) where
  -- no exponent above e is the largest
  high : exponent 12 ds ≤ e
  high = s.upper (exponent 12 ds) (exponent-most ds 12) (exponent-divides ds 12)

  pub find_none : e ≡ 0 → 0 ≡ exponent 12 ds
  find_none z = omega (arith, high)

  pub find-end : undivided_place (10 ^ e) rest ≡ None → e ≡ exponent 12 ds
  find-end n =
      let all : divides e ds ≡ true = sym (s.same e (omega arith)) ∙ all-pass (λ d. eqb (d % 10 ^ e) 0) rest n in
      let low = exponent-largest ds 12 e s.most all in
      omega (arith, high)

  module _ (place : ℕ) (found : undivided_place (10 ^ e) rest ≡ Some place) where
    at : (place < length rest) × (not (eqb (get_or rest place 0 % 10 ^ e) 0) ≡ true) × ((k : ℕ) → k < place → not (eqb (get_or rest k 0 % 10 ^ e) 0) ≡ false)
    at = position-Some (λ d. not (eqb (d % 10 ^ e) 0)) rest place 0 found

    pub find-within : place < length rest
    find-within = at.0

    passed : divides e (take place rest) ≡ true
    passed = front-passes (λ d. eqb (d % 10 ^ e) 0) place rest at.2

    same-left : (j : ℕ) → j ≤ e - 1 → divides j (drop place rest) ≡ divides j ds
    same-left j h =
        every_past (λ d. eqb (d % 10 ^ j) 0) place rest (divides-less e j (take place rest) (omega arith) passed)
        ∙ s.same j (omega arith)

    less : (j : ℕ) → j ≤ 12 → divides j ds ≡ true → j ≤ e - 1
    less j l d =
        let not-e : j ≡ e → ⊥ =
        λ same. never at.1 (ap not (every-at (λ d. eqb (d % 10 ^ e) 0) rest place 0 (s.same e (omega arith) ∙ rw same at d) at.0)) in
        omega (arith, s.upper j l d, not-e)

    pub find-less : Finding ds (e - 1) (take (length rest - place) (drop place rest))
    find-less = rw (take_rest rest place) (record { most = omega (arith, s.most); size = omega (arith, s.size, length-drop place rest); same = same-left; upper = less })

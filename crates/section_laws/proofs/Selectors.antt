-- The table of selectors, and the selector that our writer takes: the lowest that fits.
--   count-least, count_most, width-most, used-most   rules of the table, each by one test that is computed
--   Lowest             a selector fits and none below it does
--   selector_for-lowest     our writer's selector is such a one where some selector fits
--   selector_for-is         and the only one
--   selector_for-fits       some selector fits where the first number is below 2^60
use Prim.Native.Nat.{ℕ, zero, suc, ◌+◌, ◌*◌, ◌^◌, ◌≤◌, ◌<◌}
use mathlib.Core.Path.{◌≡◌, refl, subst}
use mathlib.Core.Bool.{Bool, true, false}
use mathlib.Core.List.{List, [], ◌∷◌}
use native.Mathlib.Omega.{arith}
use native.Mathlib.Decide.{dec_lt}
use lib.ListN.{length, get_or}
use lib.Dec.{leb, lit<}
use borrow.Author.Tests.{leb-true, le-leb, lt-ltb}
use Rattle.format.specs.Simple8b.{selectors, selector_count, selector_width, selector_fits, first_selector, selector_for}
use Rattle.format.proofs.Tests.{both_true, never, every-below}

-- ---- the table

module _ (p : ℕ) (h : p < 16) where
  pub count-least : 1 ≤ selector_count p
  count-least = leb-true 1 (selector_count p) (every-below (λ (k : ℕ). leb 1 (selector_count k)) 16 refl p h)

  pub count_most : selector_count p ≤ 240
  count_most = leb-true (selector_count p) 240 (every-below (λ (k : ℕ). leb (selector_count k) 240) 16 refl p h)

  pub width-most : selector_width p ≤ 60
  width-most = leb-true (selector_width p) 60 (every-below (λ (k : ℕ). leb (selector_width k) 60) 16 refl p h)

  pub used-most : selector_count p * selector_width p ≤ 60
  used-most = leb-true (selector_count p * selector_width p) 60 (every-below (λ (k : ℕ). leb (selector_count k * selector_width k) 60) 16 refl p h)

-- ---- the lowest selector that fits

-- selector p of some selectors fits
abbrev pub selector_of_fits : List (ℕ × ℕ) → ℕ → List ℕ → Bool
selector_of_fits qs p xs = selector_fits (get_or qs p (0, 0)).0 (get_or qs p (0, 0)).1 xs

-- selector p fits
abbrev pub fits_selector : ℕ → List ℕ → Bool
fits_selector p xs = selector_of_fits selectors p xs

-- selector p of some selectors fits and none below it does
pub record Lowest (qs : List (ℕ × ℕ)) (xs : List ℕ) (p : ℕ) : Type 0 where
  pub known : p < length qs
  pub fits : selector_of_fits qs p xs ≡ true
  pub below : (q : ℕ) → q < p → selector_of_fits qs q xs ≡ false

lowest-later : (q : ℕ × ℕ) (qs : List (ℕ × ℕ)) (xs : List ℕ) (p : ℕ) → selector_fits q.0 q.1 xs ≡ false → Lowest qs xs p → Lowest (q ∷ qs) xs (suc p)
lowest-later q qs xs p e l =
    record { known = omega (arith, l.known); fits = l.fits; below = λ r h. earlier r h }
  where
    earlier : (r : ℕ) → r < suc p → selector_of_fits (q ∷ qs) r xs ≡ false
    earlier zero h = e
    earlier (suc r) h = l.below r (omega arith)

module _ (xs : List ℕ) where
  -- where some selector fits, the search from selector p on comes to the lowest
  abbrev Comes : ℕ → List (ℕ × ℕ) → Type 0
  Comes p qs = (j : ℕ) × (first_selector p qs xs ≡ p + j) × Lowest qs xs j

  comes-by : (p : ℕ) (q : ℕ × ℕ) (qs : List (ℕ × ℕ)) (t : Bool) → selector_fits q.0 q.1 xs ≡ t
      → (i : ℕ) → i < length (q ∷ qs) → selector_of_fits (q ∷ qs) i xs ≡ true
      → ((i : ℕ) → i < length qs → selector_of_fits qs i xs ≡ true → Comes (p + 1) qs)
      → Comes p (q ∷ qs)
  unfolding first_selector
  comes-by p q qs true f i h e later =
      (0, rw f (omega arith), record { known = omega arith; fits = f; below = λ r l. absurd (omega arith) })
  comes-by p q qs false f zero h e later = never e f
  comes-by p q qs false f (suc i) h e later =
      let l = later i (omega arith) e in
      (suc l.0, rw f (omega (arith, l.1)), lowest-later q qs xs l.0 f l.2)

  first_selector-lowest : (p : ℕ) (qs : List (ℕ × ℕ)) (i : ℕ) → i < length qs → selector_of_fits qs i xs ≡ true → Comes p qs
  first_selector-lowest p [] i h e = absurd (omega arith)
  first_selector-lowest p (q ∷ qs) i h e =
      comes-by p q qs (selector_fits q.0 q.1 xs) refl i h e (λ j l f. first_selector-lowest (p + 1) qs j l f)

  pub selector_for-lowest : (p : ℕ) → p < 16 → fits_selector p xs ≡ true → Lowest selectors xs (selector_for xs)
  selector_for-lowest p h e =
      let l = first_selector-lowest 0 selectors p h e in
      subst (λ (q : ℕ). Lowest selectors xs q) (omega (arith, l.1)) l.2

  -- only one selector is the lowest
  lowest-same : (qs : List (ℕ × ℕ)) (p q : ℕ) → Lowest qs xs p → Lowest qs xs q → p ≡ q
  lowest-same qs p q l m =
      elim (dec_lt p q) [
        | yes h ↦ never l.fits (m.below p h)
        | no h ↦
            elim (dec_lt q p) [
              | yes k ↦ never m.fits (l.below q k)
              | no k ↦ omega arith
            ]
      ]

  pub selector_for-is : (p : ℕ) → Lowest selectors xs p → selector_for xs ≡ p
  selector_for-is p l = lowest-same selectors (selector_for xs) p (selector_for-lowest p l.known l.fits) l

pub selector_for-fits : (x : ℕ) (xs : List ℕ) → x < 2 ^ 60 → Lowest selectors (x ∷ xs) (selector_for (x ∷ xs))
selector_for-fits x xs h =
    selector_for-lowest (x ∷ xs) 15 (lit< tt)
    (both_true (le-leb 1 (suc (length xs)) (omega arith)) (both_true (lt-ltb x (2 ^ 60) h) refl))

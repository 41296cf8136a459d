-- Tests that are joined, taken apart and built back; a test that every element of a list passes, and one that every number below a bound does.
--   true-or-false, never              one test
--   and-true, or-false                a conjunction that passes, a disjunction that fails
--   both_left, both_right, both_true  the parts of a conjunction
--   every-at, every-imply             of an element; another test that follows
--   every_append, every_drop, every_map   joins, parts and images
--   below, every-below                the numbers below n; a test that is computed over them holds of each
use Prim.Native.Nat.{ℕ, zero, suc, ◌<◌}
use mathlib.Core.Path.{◌≡◌, refl, sym, ◌∙◌}
use mathlib.Core.Logic.{◌↔◌, ◌⊎◌, inl, inr, ⊎_elim}
use mathlib.Core.Bool.{Bool, true, false, true≢false, ◌&&◌, ◌||◌}
use mathlib.Core.List.{List, [], ◌∷◌, ◌++◌, map}
use native.Mathlib.Omega.{arith}
use lib.ListN.{length, drop, get_or}
use Rattle.format.specs.Choice.{every}
use Rattle.format.proofs.Cases.{same_or}

pub true-or-false : (a : Bool) → (a ≡ true) ⊎ (a ≡ false)
true-or-false true = inl refl
true-or-false false = inr refl

-- no test both passes and fails
pub never : {X : Type 0} {a : Bool} → a ≡ true → a ≡ false → X
never p q = absurd (true≢false (sym p ∙ q))

pub and-true : (a b : Bool) → (a && b ≡ true) ↔ ((a ≡ true) × (b ≡ true))
and-true true b = (λ e. (refl, e), λ h. h.1)
and-true false b = (λ e. (e, cc), λ h. h.0)

pub or-false : (a b : Bool) → (a || b ≡ false) ↔ ((a ≡ false) × (b ≡ false))
or-false true b = (λ e. (e, cc), λ h. h.0)
or-false false b = (λ e. (refl, e), λ h. h.1)

pub both_left : (a b : Bool) → a && b ≡ true → a ≡ true
both_left a b e = ((and-true a b).0 e).0

pub both_right : (a b : Bool) → a && b ≡ true → b ≡ true
both_right a b e = ((and-true a b).0 e).1

pub both_true : {a b : Bool} → a ≡ true → b ≡ true → a && b ≡ true
both_true {a} {b} p q = rw (p, q)

module _ {A : Type 0} where
  pub every-at : (p : A → Bool) (xs : List A) (i : ℕ) (d : A) → every p xs ≡ true → i < length xs → p (get_or xs i d) ≡ true
  every-at p [] i d e h = absurd (omega arith)
  every-at p (x ∷ xs) zero d e h = both_left (p x) (every p xs) e
  every-at p (x ∷ xs) (suc i) d e h = every-at p xs i d (both_right (p x) (every p xs) e) (omega arith)

  pub every-imply : (p q : A → Bool) → ((x : A) → p x ≡ true → q x ≡ true) → (xs : List A) → every p xs ≡ true → every q xs ≡ true
  every-imply p q h [] e = refl
  every-imply p q h (x ∷ xs) e =
      both_true (h x (both_left (p x) (every p xs) e)) (every-imply p q h xs (both_right (p x) (every p xs) e))

  module _ (p : A → Bool) where
    pub every_append : (xs ys : List A) → every p xs ≡ true → every p ys ≡ true → every p (xs ++ ys) ≡ true
    every_append [] ys e f = f
    every_append (x ∷ xs) ys e f =
        both_true (both_left (p x) (every p xs) e) (every_append xs ys (both_right (p x) (every p xs) e) f)

    pub every_drop : (n : ℕ) (xs : List A) → every p xs ≡ true → every p (drop n xs) ≡ true
    every_drop zero xs e = e
    every_drop (suc n) [] e = refl
    every_drop (suc n) (x ∷ xs) e = every_drop n xs (both_right (p x) (every p xs) e)

pub every_map : {A B : Type 0} (p : B → Bool) (f : A → B) (xs : List A) → every (λ x. p (f x)) xs ≡ true → every p (map f xs) ≡ true
every_map p f [] e = refl
every_map p f (x ∷ xs) e = both_true (both_left (p (f x)) _ e) (every_map p f xs (both_right (p (f x)) _ e))

-- the numbers below n
abbrev pub below : ℕ → List ℕ
below zero = []
below (suc n) = n ∷ below n

-- the rule of a table: one test that the checker computes over all its places, and the rule at each of them
pub every-below : (p : ℕ → Bool) (n : ℕ) → every p (below n) ≡ true → (k : ℕ) → k < n → p k ≡ true
every-below p zero e k h = absurd (omega arith)
every-below p (suc n) e k h =
    ⊎_elim (λ (same : k ≡ n). rw same (both_left (p n) (every p (below n)) e))
    (λ (other : k ≡ n → ⊥). every-below p n (both_right (p n) (every p (below n)) e) k (omega (arith, other)))
    (same_or k n)

-- A fact of each element of a list, and lists mapped and joined.
--   each_map, each_both                     of each element, another fact that follows from one, from two
--   every-each, none_each                   a test that every element passes, or that none does
--   every-says                              the same, of a test that says a fact
--   each_append, each_left, each_right, each-flat_map   of joins and their parts
--   each-image                              of a list that is mapped
--   ascends-rest                            the order of a list without its first
--   ascends-map, ascends_from-map            the order of a list that is mapped
--   flat_map-append                          a list mapped and joined
--   flat_map-length, flat_map-most, flat_map-each   and its length: of parts of one length, of parts that have a most, and each part is no longer
--   not-empty, has_one, nothing_left        a list with an element, a list without
--   nothing-before                          a list after an empty one
--   part-lent                               a part that is lent from a place to its end
use Prim.Native.Nat.{ℕ, ◌+◌, ◌-◌, ◌*◌, ◌≤◌}
use mathlib.Core.Path.{◌≡◌, refl, ap}
use mathlib.Core.Logic.{◌↔◌}
use mathlib.Core.Bool.{Bool, true, false, ◌&&◌}
use mathlib.Core.List.{List, [], ◌∷◌, ◌++◌, map, flat_map, append_assoc}
use native.Mathlib.Omega.{arith}
use lib.ListN.{length, take, drop, length-append}
use Rattle.format.specs.Choice.{every, some_of, is_empty, ascends, ascends_from, Each}
use Rattle.format.proofs.Tests.{and-true, or-false}

module _ {A : Type 0} where
  pub each_map : {P Q : A → Type 0} → ((x : A) → P x → Q x) → (xs : List A) → Each P xs → Each Q xs
  each_map f [] a = tt
  each_map f (x ∷ xs) a = (f x a.0, each_map f xs a.1)

  pub each_both : {P Q R : A → Type 0} → ((x : A) → P x → Q x → R x) → (xs : List A) → Each P xs → Each Q xs → Each R xs
  each_both f [] a b = tt
  each_both f (x ∷ xs) a b = (f x a.0 b.0, each_both f xs a.1 b.1)

  pub every-each : (p : A → Bool) (xs : List A) → (every p xs ≡ true) ↔ Each (λ x. p x ≡ true) xs
  every-each p [] = (λ e. tt, λ h. refl)
  every-each p (x ∷ xs) =
      let parts = and-true (p x) (every p xs) in
      let rest = every-each p xs in (
        λ e. ((parts.0 e).0, rest.0 (parts.0 e).1),
        λ h. parts.1 (h.0, rest.1 h.1),
      )

  pub every-says : {P : A → Type 0} (p : A → Bool) → ((x : A) → (p x ≡ true) ↔ P x) → (xs : List A) → (every p xs ≡ true) ↔ Each P xs
  every-says p says xs =
      let each = every-each p xs in (
        λ e. each_map (λ x. (says x).0) xs (each.0 e),
        λ h. each.1 (each_map (λ x. (says x).1) xs h),
      )

  pub none_each : (p : A → Bool) (xs : List A) → (some_of p xs ≡ false) ↔ Each (λ x. p x ≡ false) xs
  none_each p [] = (λ e. tt, λ h. refl)
  none_each p (x ∷ xs) =
      let parts = or-false (p x) (some_of p xs) in
      let rest = none_each p xs in (
        λ e. ((parts.0 e).0, rest.0 (parts.0 e).1),
        λ h. parts.1 (h.0, rest.1 h.1),
      )

module _ {A : Type 0} (P : A → Type 0) where
  pub each_append : (xs ys : List A) → Each P xs → Each P ys → Each P (xs ++ ys)
  each_append [] ys h k = k
  each_append (x ∷ xs) ys h k = (h.0, each_append xs ys h.1 k)

  pub each_left : (xs ys : List A) → Each P (xs ++ ys) → Each P xs
  each_left [] ys h = tt
  each_left (x ∷ xs) ys h = (h.0, each_left xs ys h.1)

  pub each_right : (xs ys : List A) → Each P (xs ++ ys) → Each P ys
  each_right [] ys h = h
  each_right (x ∷ xs) ys h = each_right xs ys h.1

pub each-image : {A B : Type 0} (P : B → Type 0) (f : A → B) (xs : List A) → Each P (map f xs) ↔ Each (λ x. P (f x)) xs
each-image P f [] = (λ h. tt, λ h. tt)
each-image P f (x ∷ xs) = let rest = each-image P f xs in (λ h. (h.0, rest.0 h.1), λ h. (h.0, rest.1 h.1))

module _ {A B : Type 0} (P : B → Type 0) (f : A → List B) where
  pub each-flat_map : (xs : List A) → Each P (flat_map f xs) ↔ Each (λ x. Each P (f x)) xs
  unfolding flat_map
  each-flat_map [] = (λ h. tt, λ h. tt)
  each-flat_map (x ∷ xs) =
      let rest = each-flat_map xs in (
        λ h. (each_left P (f x) (flat_map f xs) h, rest.0 (each_right P (f x) (flat_map f xs) h)),
        λ h. each_append P (f x) (flat_map f xs) h.0 (rest.1 h.1),
      )

pub ascends-rest : {A : Type 0} (before : A → A → Bool) (x : A) (xs : List A) → ascends_from before x xs ≡ true → ascends before xs ≡ true
ascends-rest before x [] e = refl
ascends-rest before x (y ∷ ys) e = ((and-true (before x y) (ascends_from before y ys)).0 e).1

module _ {A B : Type 0} (before : B → B → Bool) (f : A → B) where
  pub ascends_from-map : (x : A) (xs : List A) → ascends_from before (f x) (map f xs) ≡ ascends_from (λ a b. before (f a) (f b)) x xs
  ascends_from-map x [] = refl
  ascends_from-map x (y ∷ ys) = ap (λ (t : Bool). before (f x) (f y) && t) (ascends_from-map y ys)

  pub ascends-map : (xs : List A) → ascends before (map f xs) ≡ ascends (λ a b. before (f a) (f b)) xs
  ascends-map [] = refl
  ascends-map (x ∷ xs) = ascends_from-map x xs

module _ {A B : Type 0} (f : A → List B) where
  pub flat_map-append : (xs ys : List A) → flat_map f (xs ++ ys) ≡ flat_map f xs ++ flat_map f ys
  unfolding flat_map
  flat_map-append [] ys = refl
  flat_map-append (x ∷ xs) ys = rw (flat_map-append xs ys, append_assoc)

  module _ (n : ℕ) where
    pub flat_map-length : ((x : A) → length (f x) ≡ n) → (xs : List A) → length (flat_map f xs) ≡ length xs * n
    unfolding flat_map
    flat_map-length h [] = omega arith
    flat_map-length h (x ∷ xs) = omega (arith, length-append (f x) (flat_map f xs), h x, flat_map-length h xs)

    pub flat_map-most : (xs : List A) → Each (λ x. length (f x) ≤ n) xs → length (flat_map f xs) ≤ length xs * n
    unfolding flat_map
    flat_map-most [] h = omega arith
    flat_map-most (x ∷ xs) h = omega (arith, length-append (f x) (flat_map f xs), flat_map-most xs h.1)

    pub flat_map-each : (xs : List A) → length (flat_map f xs) ≤ n → Each (λ x. length (f x) ≤ n) xs
    unfolding flat_map
    flat_map-each [] h = tt
    flat_map-each (x ∷ xs) h =
        let whole = length-append (f x) (flat_map f xs) in (omega arith, flat_map-each xs (omega arith))

pub not-empty : {A : Type 0} (xs : List A) → 1 ≤ length xs → is_empty xs ≡ false
not-empty [] h = absurd (omega arith)
not-empty (x ∷ xs) h = refl

pub has_one : {A : Type 0} (xs : List A) → is_empty xs ≡ false → 1 ≤ length xs
has_one [] e = let z : ◌≡◌ {A = ℕ} 0 1 = cc in absurd (omega arith)
has_one (x ∷ xs) e = omega arith

pub nothing-before : {A : Type 0} (none xs : List A) → length none ≡ 0 → none ++ xs ≡ xs
nothing-before [] xs e = refl
nothing-before (x ∷ none) xs e = absurd (omega (arith, e))

pub nothing_left : {A : Type 0} (xs : List A) → is_empty xs ≡ true → xs ≡ []
nothing_left [] e = refl
nothing_left (x ∷ xs) e = cc

-- a part that is lent from a place to its end
pub part-lent : {A : Type 0} (xs : List A) (at n : ℕ) → take (at + n - at) (drop at xs) ≡ take n (drop at xs)
part-lent xs at n = let size : at + n - at ≡ n = omega arith in rw size

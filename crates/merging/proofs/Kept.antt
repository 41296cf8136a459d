-- Elements kept, changed or dropped, each under its own label: `filter_map` of a list whose labels ascend.
--   kept-each        a fact of each element that is kept
--   kept-ascending   the labels still ascend
--   at-kept          what is found
use mathlib.Core.Path.{◌≡◌, refl, sym, ap, ◌∙◌}
use mathlib.Core.Logic.{◌≢◌}
use mathlib.Core.List.{List, [], ◌∷◌, filter_map}
use mathlib.Core.Option.{Option, none, some, Option-elim}
use Rattle.format.specs.Choice.{Each}
use Rattle.merging.proofs.Options.{Found, through, found_map}
use Rattle.merging.proofs.Sorted.{Ordering, Above, Ascending, at, same?, at_here, at-skip, at_above}

module _ {A : Type 0} (O : Ordering A) (f : A → Option A) (label_Kept : (x : A) → Found (λ y. O.label y ≡ O.label x) (f x)) where
  -- the first, where there is one, and the rest
  abbrev front : Option A → List A → List A
  front none xs = xs
  front (some x) xs = x ∷ xs

  kept_cons : (x : A) (xs : List A) → filter_map f (x ∷ xs) ≡ front (f x) (filter_map f xs)
  unfolding filter_map Option-elim
  kept_cons x xs = go (f x)
    where
      go : (o : Option A) → Option-elim o (filter_map f xs) (λ y. y ∷ filter_map f xs) ≡ front o (filter_map f xs)
      go none = refl
      go (some y) = refl

  each-front : (P : A → Type 0) (o : Option A) (xs : List A) → Found P o → Each P xs → Each P (front o xs)
  each-front P none xs h a = a
  each-front P (some y) xs h a = (h, a)

  ascending-front : (l : O.Label) (o : Option A) (xs : List A) → Found (λ y. O.label y ≡ l) o → Above O l xs → Ascending O xs →
      Ascending O (front o xs)
  ascending-front l none xs h a b = b
  ascending-front l (some y) xs h a b = (rw h a, b)

  at-front-same : (l : O.Label) (o : Option A) (xs : List A) → Found (λ y. O.label y ≡ l) o → Above O l xs → at O l (front o xs) ≡ o
  at-front-same l none xs h a = at_above O l xs a
  at-front-same l (some y) xs h a = at_here O l y xs (sym h)

  at-front-other : (k l : O.Label) (o : Option A) (xs : List A) → Found (λ y. O.label y ≡ l) o → k ≢ l → at O k (front o xs) ≡ at O k xs
  at-front-other k l none xs h d = refl
  at-front-other k l (some y) xs h d = at-skip O k y xs (λ e. d (e ∙ h))

  pub kept-each : (P Q : A → Type 0) → ((x : A) → P x → Found Q (f x)) → (xs : List A) → Each P xs → Each Q (filter_map f xs)
  kept-each P Q h [] a = unfold filter_map in tt
  kept-each P Q h (x ∷ xs) a =
      rw (kept_cons x xs) (each-front Q (f x) (filter_map f xs) (h x a.0) (kept-each P Q h xs a.1))

  kept_above : (l : O.Label) (xs : List A) → Above O l xs → Above O l (filter_map f xs)
  kept_above l xs a = kept-each _ _ (λ x h. found_map (λ y e. rw e h) (f x) (label_Kept x)) xs a

  pub kept-ascending : (xs : List A) → Ascending O xs → Ascending O (filter_map f xs)
  kept-ascending [] a = unfold filter_map in tt
  kept-ascending (x ∷ xs) a =
      rw (kept_cons x xs) (ascending-front (O.label x) (f x) (filter_map f xs) (label_Kept x) (kept_above (O.label x) xs a.0) (kept-ascending xs a.1))

  pub at-kept : (xs : List A) → Ascending O xs → (l : O.Label) → at O l (filter_map f xs) ≡ through f (at O l xs)
  at-kept [] a l = unfold filter_map in refl
  at-kept (x ∷ xs) a l =
      elim (same? O l (O.label x)) [
        | yes e ↦
            rw (at_here O l x xs e, kept_cons x xs)
            (ap (λ k. at O k (front (f x) (filter_map f xs))) e ∙ at-front-same (O.label x) (f x) (filter_map f xs) (label_Kept x) (kept_above (O.label x) xs a.0))
        | no d ↦
            rw (kept_cons x xs) (at-front-other l (O.label x) (f x) (filter_map f xs) (label_Kept x) d) ∙ at-kept xs a.1 l ∙
            ap (through f) (sym (at-skip O l x xs d))
      ]

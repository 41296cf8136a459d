-- `merge_by` of lists whose labels ascend, for any elements, labels and strict total order.
--   Merges             the steps of a walk along both lists, as a relation: older, newer, result
--   merge-nil, merge-older, merge-newer, merge-both   what `merge_by` does at the heads
--   merge-ascending, at-merge                         its result ascends, and what is found in it
--   merge-non_empty, merge-each                        what else its result is and has
use mathlib.Core.Path.{◌≡◌, refl, sym, ap, ap₂, ◌∙◌}
use mathlib.Core.Bool.{true, false}
use mathlib.Core.List.{List, [], ◌∷◌}
use Rattle.format.specs.Choice.{is_empty, Each}
use Rattle.format.specs.Merge.{merge_by}
use Rattle.merging.proofs.Options.{over, over_none}
use Rattle.merging.proofs.Sorted.{Ordering, below, Above, Ascending, at, asymmetric, level, same?, is_before, is_here, is_after, placed, at_here, at-skip, at_above, above-trans}

module _ {A : Type 0} (O : Ordering A) where
  -- the walk along an older and a newer list, and what it makes
  pub data Merges (join : A → A → A) : (older newer result : List A) → Type 0 where
    newer-left : {ys : List A} → Merges join [] ys ys
    older-left : {xs : List A} → Merges join xs [] xs
    older-first : {x y : A} {xs ys zs : List A} → below O x y ≡ true → Merges join xs (y ∷ ys) zs → Merges join (x ∷ xs) (y ∷ ys) (x ∷ zs)
    newer-first : {x y : A} {xs ys zs : List A} → below O y x ≡ true → Merges join (x ∷ xs) ys zs → Merges join (x ∷ xs) (y ∷ ys) (y ∷ zs)
    both_first : {x y : A} {xs ys zs : List A} → O.label x ≡ O.label y → Merges join xs ys zs → Merges join (x ∷ xs) (y ∷ ys) (join x y ∷ zs)

  module _ (join : A → A → A) where
    pub merge-nil : (xs : List A) → merge_by (below O) join xs [] ≡ xs
    merge-nil [] = refl
    merge-nil (x ∷ xs) = ap (◌∷◌ x) (merge-nil xs)

    -- what `merge_by` does at the heads: the older's is taken, the newer's is, or the two are joined
    pub merge-older : (x y : A) (xs ys : List A) → below O x y ≡ true →
        merge_by (below O) join (x ∷ xs) (y ∷ ys) ≡ x ∷ merge_by (below O) join xs (y ∷ ys)
    merge-older x y xs ys h = rw h

    pub merge-newer : (x y : A) (xs ys : List A) → below O y x ≡ true →
        merge_by (below O) join (x ∷ xs) (y ∷ ys) ≡ y ∷ merge_by (below O) join (x ∷ xs) ys
    merge-newer x y xs ys h = rw (asymmetric O (O.label y) (O.label x) h, h)

    pub merge-both : (x y : A) (xs ys : List A) → O.label x ≡ O.label y →
        merge_by (below O) join (x ∷ xs) (y ∷ ys) ≡ join x y ∷ merge_by (below O) join xs ys
    merge-both x y xs ys e = rw (level O (O.label x) (O.label y) e, level O (O.label y) (O.label x) (sym e))

    merges-into : (x : A) (xs : List A) → ((ys : List A) → Merges join xs ys (merge_by (below O) join xs ys)) → (ys : List A) →
        Merges join (x ∷ xs) ys (merge_by (below O) join (x ∷ xs) ys)
    merges-into x xs rest [] = rw (merge-nil (x ∷ xs)) older-left
    merges-into x xs rest (y ∷ ys) =
        elim (placed O (O.label x) (O.label y)) [
          | is_before h ↦ rw (merge-older x y xs ys h) (older-first h (rest (y ∷ ys)))
          | is_here e ↦ rw (merge-both x y xs ys e) (both_first e (rest ys))
          | is_after h ↦ rw (merge-newer x y xs ys h) (newer-first h (merges-into x xs rest ys))
        ]

    pub merges : (xs ys : List A) → Merges join xs ys (merge_by (below O) join xs ys)
    merges [] ys = newer-left
    merges (x ∷ xs) ys = merges-into x xs (merges xs) ys

    -- what holds of each element of both, and is kept by `join`, holds of each of the result
    each-walk : {xs ys zs : List A} (P : A → Type 0) → ((x y : A) → O.label x ≡ O.label y → P x → P y → P (join x y)) →
        Merges join xs ys zs → Each P xs → Each P ys → Each P zs
    each-walk P joined newer-left a b = b
    each-walk P joined older-left a b = a
    each-walk P joined (older-first h w) a b = (a.0, each-walk P joined w a.1 b)
    each-walk P joined (newer-first h w) a b = (b.0, each-walk P joined w a b.1)
    each-walk P joined (both_first {x = x} {y = y} e w) a b = (joined x y e a.0 b.0, each-walk P joined w a.1 b.1)

    non_empty-walk : {xs ys zs : List A} → Merges join xs ys zs → is_empty ys ≡ false → is_empty zs ≡ false
    non_empty-walk newer-left h = h
    non_empty-walk older-left h = cc
    non_empty-walk (older-first k w) h = refl
    non_empty-walk (newer-first k w) h = refl
    non_empty-walk (both_first e w) h = refl

    module _ (label-join : (x y : A) → O.label (join x y) ≡ O.label y) where
      above-walk : {xs ys zs : List A} (l : O.Label) → Merges join xs ys zs → Above O l xs → Above O l ys → Above O l zs
      above-walk l w a b = each-walk _ (λ x y e p q. rw (label-join x y) q) w a b

      ascending-walk : {xs ys zs : List A} → Merges join xs ys zs → Ascending O xs → Ascending O ys → Ascending O zs
      ascending-walk newer-left a b = b
      ascending-walk older-left a b = a
      ascending-walk (older-first {x = x} {y = y} {ys = ys} h w) a b =
          (above-walk (O.label x) w a.0 (h, above-trans O (O.label x) (O.label y) ys h b.0), ascending-walk w a.1 b)
      ascending-walk (newer-first {x = x} {y = y} {xs = xs} h w) a b =
          (above-walk (O.label y) w (h, above-trans O (O.label y) (O.label x) xs h a.0) b.0, ascending-walk w a b.1)
      ascending-walk (both_first {x = x} {y = y} e w) a b =
          (rw (label-join x y) (above-walk (O.label y) w (rw e at a.0) b.0), ascending-walk w a.1 b.1)

      at-walk : {xs ys zs : List A} → Merges join xs ys zs → Ascending O xs → Ascending O ys → (l : O.Label) →
          at O l zs ≡ over join (at O l xs) (at O l ys)
      at-walk newer-left a b l = refl
      at-walk older-left a b l = sym (over_none join _)
      at-walk (older-first {x = x} {y = y} {xs = xs} {ys = ys} {zs = zs} h w) a b l =
          elim (same? O l (O.label x)) [
            | yes e ↦ rw (at_here O l x zs e, at_here O l x xs e, ap (λ k. at O k (y ∷ ys)) e ∙ at_above O (O.label x) (y ∷ ys) (h, above-trans O (O.label x) (O.label y) ys h b.0))
            | no d ↦ at-skip O l x zs d ∙ at-walk w a.1 b l ∙ ap (λ o. over join o (at O l (y ∷ ys))) (sym (at-skip O l x xs d))
          ]
      at-walk (newer-first {x = x} {y = y} {xs = xs} {ys = ys} {zs = zs} h w) a b l =
          elim (same? O l (O.label y)) [
            | yes e ↦ rw (at_here O l y zs e, at_here O l y ys e, ap (λ k. at O k (x ∷ xs)) e ∙ at_above O (O.label y) (x ∷ xs) (h, above-trans O (O.label y) (O.label x) xs h a.0))
            | no d ↦ at-skip O l y zs d ∙ at-walk w a b.1 l ∙ ap (over join (at O l (x ∷ xs))) (sym (at-skip O l y ys d))
          ]
      at-walk (both_first {x = x} {y = y} {xs = xs} {ys = ys} {zs = zs} e w) a b l =
          elim (same? O l (O.label y)) [
            | yes k ↦ rw (at_here O l y ys k, at_here O l x xs (k ∙ sym e), at_here O l (join x y) zs (k ∙ sym (label-join x y)))
            | no d ↦
                at-skip O l (join x y) zs (λ k. d (k ∙ label-join x y)) ∙ at-walk w a.1 b.1 l ∙
                ap₂ (over join) (sym (at-skip O l x xs (λ k. d (k ∙ e)))) (sym (at-skip O l y ys d))
          ]

      -- `merge_by` of two ascending lists ascends, and has under each label what the two have, joined
      pub merge-ascending : (xs ys : List A) → Ascending O xs → Ascending O ys → Ascending O (merge_by (below O) join xs ys)
      merge-ascending xs ys a b = ascending-walk (merges xs ys) a b

      pub at-merge : (xs ys : List A) → Ascending O xs → Ascending O ys → (l : O.Label) →
          at O l (merge_by (below O) join xs ys) ≡ over join (at O l xs) (at O l ys)
      at-merge xs ys a b l = at-walk (merges xs ys) a b l

    pub merge-non_empty : (xs ys : List A) → is_empty ys ≡ false → is_empty (merge_by (below O) join xs ys) ≡ false
    merge-non_empty xs ys h = non_empty-walk (merges xs ys) h

    pub merge-each : (P : A → Type 0) → ((x y : A) → O.label x ≡ O.label y → P x → P y → P (join x y)) → (xs ys : List A) →
        Each P xs → Each P ys → Each P (merge_by (below O) join xs ys)
    merge-each P joined xs ys a b = each-walk P joined (merges xs ys) a b

-- The laws of `splice`: what stands before, in and past the part laid over, and two parts laid one after the other.
--   splice-length      the length is unchanged
--   splice-nothing     nothing laid over
--   splice_front       at place 0 it is format's `overwrite`
--   overwrite-whole    all of it laid over
--   splice-append      a part and then the part after it are laid as one
--   splice-set         a store is a part of one element
--   splice-store       a store and then the part after it are laid as one
--   take-splice        what stands before the part
--   take-splice-past   all up to the part's end
--   drop-splice        what stands past the part
--   drop-splice-at     all from the part's start
--   splice-back        the part itself
--   splice-apart       two parts that do not overlap: either can be laid first
--   laid-two           a part, and then the one after it, are laid as one
--   laid-before        a part, and then the one before it, are laid as one
--   part-back          a part that was laid, read back
use Prim.Native.Nat.{ℕ, ◌+◌, ◌-◌, ◌≤◌, ◌<◌}
use mathlib.Core.Path.{◌≡◌, refl, sym, ap, ap₂, subst, ◌∙◌}
use mathlib.Core.List.{List, [], ◌∷◌, ◌++◌, append_assoc, append-nil}
use native.Mathlib.Nat.{add-zero, zero-add, add_assoc}
use native.Mathlib.Numerals.{add-one}
use native.Mathlib.Omega.{arith}
use lib.ListN.{length, take, drop, set, drop_of_length-le, length-append, length-take, length-drop, take-append-drop}
use lib.Seq.{length-take-le, take-add, take_at, drop_at, take-append-le, drop-append-add, take-take, drop-drop, set_split}
use Rattle.format.specs.Bytes.{overwrite, splice}

module _ {A : Type 0} where
  -- all of p, which has `at` elements, and n more
  drop_past : (p q : List A) (at n : ℕ) → length p ≡ at → drop (at + n) (p ++ q) ≡ drop n q
  drop_past p q at n e = subst (λ (k : ℕ). drop (k + n) (p ++ q) ≡ drop n q) e (drop-append-add p q n)

  splice-is : (at : ℕ) (new old : List A) → splice at new old ≡ take at old ++ (new ++ drop (at + length new) old)
  unfolding splice
  splice-is at new old = refl

  pub splice-nothing : (at : ℕ) (old : List A) → splice at [] old ≡ old
  unfolding splice
  splice-nothing at old = rw add-zero (take-append-drop at old)

  pub splice_front : (new old : List A) → splice 0 new old ≡ overwrite new old
  unfolding splice
  splice_front new old = rw zero-add

  pub overwrite-whole : (new old : List A) → length old ≡ length new → overwrite new old ≡ new
  overwrite-whole new old e = rw (drop_of_length-le old {i = length new} (omega arith), append-nil)

  module _ (at : ℕ) (new old : List A) where
    pub take-splice : (n : ℕ) → n ≤ at → at ≤ length old → take n (splice at new old) ≡ take n old
    unfolding splice
    take-splice n h inside =
        take-append-le n (take at old) _ (rw (length-take-le at old) h) ∙ take-take n at old h

    pub take-splice-past : at ≤ length old → take (at + length new) (splice at new old) ≡ take at old ++ new
    unfolding splice
    take-splice-past inside =
        rw (← append_assoc) (take_at (take at old ++ new) _ (at + length new) (rw (length-append, length-take-le at old)))

    pub drop-splice-at : at ≤ length old → drop at (splice at new old) ≡ new ++ drop (at + length new) old
    unfolding splice
    drop-splice-at inside = drop_at (take at old) _ at (length-take-le at old inside)

    -- n elements past the part
    pub drop-splice : (n : ℕ) → at ≤ length old → drop (at + length new + n) (splice at new old) ≡ drop (at + length new + n) old
    unfolding splice
    drop-splice n inside =
        rw add_assoc
        (drop_past (take at old) _ at (length new + n) (length-take-le at old inside)
        ∙ drop-append-add new (drop (at + length new) old) n
        ∙ drop-drop n (at + length new) old
        ∙ rw add_assoc)

    pub splice-back : at ≤ length old → take (length new) (drop at (splice at new old)) ≡ new
    splice-back inside = rw drop-splice-at (take_at new _ (length new) refl)

    pub splice-length : at + length new ≤ length old → length (splice at new old) ≡ length old
    unfolding splice
    splice-length fits = simp (length-append, length-take, length-drop) (omega arith)

  pub splice-append : (at : ℕ) (a b old : List A) → at ≤ length old → splice (at + length a) b (splice at a old) ≡ splice at (a ++ b) old
  splice-append at a b old inside =
      rw (
        splice-is (at + length a) b (splice at a old),
        splice-is at (a ++ b) old,
        take-splice-past at a old inside,
        drop-splice at a old (length b) inside,
        length-append a b,
        ← add_assoc at (length a) (length b),
      )
      (simp append_assoc)

  pub splice-set : (at : ℕ) (x : A) (old : List A) → at < length old → set old at x ≡ splice at (x ∷ []) old
  unfolding splice
  splice-set at x old h = rw add-one (set_split old at x h)

  pub splice-store : (at : ℕ) (x : A) (xs old : List A) → at < length old → splice (at + 1) xs (set old at x) ≡ splice at (x ∷ xs) old
  splice-store at x xs old h = rw splice-set (splice-append at (x ∷ []) xs old (omega arith))

  -- d elements stand between the two parts
  module _ (at d : ℕ) (a b old : List A) (inside : at + length a + d + length b ≤ length old) where
    abbrev k : ℕ
    k = at + length a

    abbrev gap : List A
    gap = take d (drop k old)

    abbrev past : List A
    past = drop (k + d + length b) old

    after_first : drop k (splice (k + d) b old) ≡ gap ++ (b ++ past)
    after_first =
        ap (drop k) (splice-is (k + d) b old ∙ ap (λ (p : List A). p ++ (b ++ past)) (take-add k d old) ∙ append_assoc (take k old) gap (b ++ past))
        ∙ drop_at (take k old) (gap ++ (b ++ past)) k (length-take-le k old (omega arith))

    first-last : splice at a (splice (k + d) b old) ≡ take at old ++ (a ++ (gap ++ (b ++ past)))
    first-last =
        splice-is at a (splice (k + d) b old)
        ∙ ap₂ (λ (p q : List A). p ++ (a ++ q)) (take-splice (k + d) b old at (omega arith) (omega arith)) after_first

    after-near : drop k (splice at a old) ≡ drop k old
    after-near = rw add-zero at (drop-splice at a old 0 (omega arith))

    after-far : drop (k + d + length b) (splice at a old) ≡ past
    after-far = rw (← add_assoc k d (length b)) at (drop-splice at a old (d + length b) (omega arith))

    last-last : splice (k + d) b (splice at a old) ≡ ((take at old ++ a) ++ gap) ++ (b ++ past)
    last-last =
        splice-is (k + d) b (splice at a old)
        ∙ ap₂ (λ (p q : List A). p ++ (b ++ q))
        (take-add k d (splice at a old) ∙ ap₂ (λ (p q : List A). p ++ take d q) (take-splice-past at a old (omega arith)) after-near)
        after-far

    joined : ((take at old ++ a) ++ gap) ++ (b ++ past) ≡ take at old ++ (a ++ (gap ++ (b ++ past)))
    joined = append_assoc (take at old ++ a) gap (b ++ past) ∙ append_assoc (take at old) a (gap ++ (b ++ past))

    apart : splice at a (splice (at + length a + d) b old) ≡ splice (at + length a + d) b (splice at a old)
    apart = first-last ∙ sym (last-last ∙ joined)

  pub splice-apart : (at to : ℕ) (a b old : List A) → at + length a ≤ to → to + length b ≤ length old
      → splice at a (splice to b old) ≡ splice to b (splice at a old)
  splice-apart at to a b old h inside =
      let e : at + length a + (to - (at + length a)) ≡ to = omega arith in
      rw e at (apart at (to - (at + length a)) a b old (omega arith))

  pub laid-two : (at next : ℕ) (a b old mid new : List A) → at ≤ length old → next ≡ at + length a → mid ≡ splice at a old → new ≡ splice next b mid
      → new ≡ splice at (a ++ b) old
  laid-two at next a b old mid new inside e f g = g ∙ rw (e, f) (splice-append at a b old inside)

  pub laid-before : (at next : ℕ) (a b old mid new : List A) → next + length b ≤ length old → next ≡ at + length a → mid ≡ splice next b old → new ≡ splice at a mid
      → new ≡ splice at (a ++ b) old
  laid-before at next a b old mid new inside e f g =
      g ∙ ap (splice at a) f ∙ splice-apart at next a b old (omega (arith, e)) inside ∙ rw e (splice-append at a b old (omega (arith, e)))

  pub part-back : (at next : ℕ) (a old mid : List A) → at ≤ length old → next ≡ at + length a → mid ≡ splice at a old → take (next - at) (drop at mid) ≡ a
  part-back at next a old mid inside e f =
      let n : next - at ≡ length a = omega (arith, e) in
      rw (n, f) (splice-back at a old inside)

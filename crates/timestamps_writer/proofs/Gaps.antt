-- The differences between ascending times: what the machine subtracts is the difference.
--   gap-pattern            the difference of two times, by their patterns
--   Stepping               the state of the loop
use mathlib.Core.Path.{◌≡◌, refl, sym, ap, ◌∙◌}
use mathlib.Core.Bool.{true, false≢true}
use mathlib.Core.List.{List, [], ◌∷◌, ◌++◌}
use Prim.Native.Nat.{ℕ, zero, suc, ◌+◌, ◌^◌, ◌≤◌, ◌<◌}
use native.Mathlib.Numerals.{add-one}
use native.Mathlib.Omega.{arith}
use borrow.Author.Tests.{le-ltb, ltb-true}
use lib.IntN.{ℤ, pos, negsuc, ◌-ℤ◌, nat_abs}
use lib.Signed.{mag, lt_z}
use lib.ListN.{length, take, drop, set, get_or, drop_of_length-le}
use lib.Seq.{drop-cons}
use Rattle.std.proofs.Common.{append_assoc, append-nil}
use Rattle.std.proofs.lemmas.List.{take_all, take_more_set}
use Rattle.format.specs.Choice.{ascends}
use Rattle.format.specs.Signed.{pattern, wrap_sub}
use Rattle.format.proofs.Tests.{both_left, both_right}
use Rattle.timestamps_writer.specs.Writing.{differences_of}

pub gap-pattern : (t u : ℤ) → lt_z t u ≡ true → mag t < 2 ^ 63 → mag u < 2 ^ 63 → nat_abs (u -ℤ t) ≡ wrap_sub (pattern u) (pattern t)
gap-pattern (pos zero) (pos b) later ft fu = omega arith
gap-pattern (pos (suc a)) (pos b) later ft fu =
    let h = ltb-true (suc a) b later in
    rw (le-ltb b (suc a) (omega arith)) (omega arith)
gap-pattern (pos a) (negsuc b) later ft fu = absurd (false≢true later)
gap-pattern (negsuc a) (pos b) later ft fu = omega arith
gap-pattern (negsuc a) (negsuc b) later ft fu =
    let h = ltb-true b a later in
    rw (le-ltb (suc a) (suc b) (omega arith)) (omega arith)

-- ts the times, and `cells` those that hold the differences passed
pub record Stepping (ts : List ℤ) (cells : List ℕ) (i : ℕ) : Type 0 where
  pub ascend : ascends lt_z (drop i ts) ≡ true
  pub same : take i cells ++ differences_of (drop i ts) ≡ differences_of ts

module _ (ts : List ℤ) (cells : List ℕ) (sizes : length ts ≡ length cells + 1) {i : ℕ} (s : Stepping ts cells i) where
  one : (j : ℕ) → j ≤ length cells → drop j ts ≡ get_or ts j (pos 0) ∷ drop (j + 1) ts
  one j h = rw add-one (drop-cons ts j (pos 0) (omega arith))

  pub gaps-end : i ≡ length cells → cells ≡ differences_of ts
  gaps-end h =
      let last : differences_of (drop i ts) ≡ [] = rw (one i (omega arith), drop_of_length-le ts {i = i + 1} (omega arith)) refl in
      sym (take_all i cells (omega arith)) ∙ sym (append-nil (take i cells)) ∙ ap (λ (ds : List ℕ). take i cells ++ ds) (sym last) ∙ s.same

  module _ (h : i < length cells) where
    two : drop i ts ≡ get_or ts i (pos 0) ∷ get_or ts (i + 1) (pos 0) ∷ drop (i + 1 + 1) ts
    two = one i (omega arith) ∙ ap (λ (us : List ℤ). get_or ts i (pos 0) ∷ us) (one (i + 1) (omega arith))

    pub gaps-later : lt_z (get_or ts i (pos 0)) (get_or ts (i + 1) (pos 0)) ≡ true
    gaps-later = both_left (lt_z (get_or ts i (pos 0)) (get_or ts (i + 1) (pos 0))) _ (rw two at s.ascend)

    pub gaps-more : (x : ℕ) → x ≡ nat_abs (get_or ts (i + 1) (pos 0) -ℤ get_or ts i (pos 0)) → Stepping ts (set cells i x) (i + 1)
    gaps-more x e =
        let rest : differences_of (drop i ts) ≡ x ∷ differences_of (drop (i + 1) ts) = rw (two, one (i + 1) (omega arith), e) refl in
        record {
          ascend = rw (one (i + 1) (omega arith)) (both_right (lt_z (get_or ts i (pos 0)) (get_or ts (i + 1) (pos 0))) _ (rw two at s.ascend));
          same = rw (take_more_set cells i x h, append_assoc, ← rest) s.same;
        }

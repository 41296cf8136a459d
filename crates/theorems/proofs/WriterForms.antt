-- The form that our writer takes: its two tests say what the statement says, and each of its three forms states its number.
--   all-equal, alike   the tests of equal numbers
--   form-by            the form by two tests
--   largest, one-largest   the exponent of our writer is the one that the statement names
--   times-form, integers-form   the forms of both sections
use Prim.Native.Nat.{ℕ, ◌/◌, ◌%◌, ◌^◌, ◌≤◌}
use mathlib.Core.Path.{◌≡◌, refl, sym, ◌∙◌}
use mathlib.Core.Logic.{◌↔◌}
use mathlib.Core.Bool.{Bool, true, false}
use mathlib.Core.List.{List, [], ◌∷◌}
use native.Mathlib.Omega.{arith}
use lib.IntN.{ℤ}
use lib.ListN.{length}
use lib.Dec.{eqb, leb}
use Rattle.format.specs.Limits.{exponent_most, packed_most}
use Rattle.format.specs.Choice.{every, all_equal, Each}
use Rattle.format.specs.Timestamps.{differences_from, exponent, times_with, times_section}
use Rattle.format.specs.Integers.{stored_from, stored, integers_section}
use Rattle.format.proofs.Tests.{never}
use Rattle.format.proofs.Lists.{each_map, every-says}
use Rattle.section_laws.specs.Choices.{repeats}
use Rattle.section_laws.proofs.Forms.{repeating, packing, plain, choice}
use Rattle.section_laws.proofs.Exponents.{exponent-most, exponent-divides, exponent-largest}
use Rattle.section_laws.proofs.Timestamps.{times_with-repeated, times_with-packed, times_with-raw}
use Rattle.section_laws.proofs.Integers.{stored_section-repeated, stored_section-packed, stored_section-raw}
use Rattle.acceptance.specs.Sections.{TimesForm, IntegersForm}
use Rattle.acceptance.proofs.Times.{times-read}
use Rattle.acceptance.proofs.Integers.{integers-read}
use Rattle.theorems.proofs.Steps.{leb-exactly, eqb-exactly, both-exactly}
use Rattle.theorems.specs.WriterForms.{form_number, Alike, LargestExponent, FormBy, WriterForms}

-- ---- tests as facts

all-equal : (xs : List ℕ) → (all_equal xs ≡ true) ↔ ((x : ℕ) × Each (λ y. x ≡ y) xs)
all-equal [] = (λ e. (0, tt), λ h. refl)
all-equal (x ∷ xs) =
    let same = every-says (eqb x) (eqb-exactly x) xs in (
      λ e. (x, (refl, same.0 e)),
      λ (z, (first, rest)). same.1 (each_map (λ y s. sym first ∙ s) xs rest),
    )

alike : (least : ℕ) (xs : List ℕ) → (repeats least xs ≡ true) ↔ Alike least xs
alike least xs = both-exactly (leb-exactly least (length xs)) (all-equal xs)

-- ---- the form by two tests

module _ {same small : Bool} {Same Small : Type 0} (is_same : (same ≡ true) ↔ Same) (is_small : (small ≡ true) ↔ Small) (section : List ℕ) where
  form-by : (same ≡ true → form_number section ≡ 2) → (same ≡ false → small ≡ true → form_number section ≡ 1)
      → (same ≡ false → small ≡ false → form_number section ≡ 0)
      → FormBy Same Small section
  form-by two one none =
      elim (choice same small) [
        | repeating s ↦ record {
          repeated = (λ e. is_same.0 s, λ h. two s);
          packed = (λ e. absurd (omega (arith, two s, e)), λ h. absurd (h.0 (is_same.0 s)));
          raw = (λ e. absurd (omega (arith, two s, e)), λ h. absurd (h.0 (is_same.0 s)));
        }
        | packing s p ↦
            let differ : ¬ Same = λ h. never (is_same.1 h) s in
            record {
              repeated = (λ e. absurd (omega (arith, one s p, e)), λ h. absurd (differ h));
              packed = (λ e. (differ, is_small.0 p), λ h. one s p);
              raw = (λ e. absurd (omega (arith, one s p, e)), λ h. absurd (h.1 (is_small.0 p)));
            }
        | plain s p ↦
            let differ : ¬ Same = λ h. never (is_same.1 h) s in
            let large : ¬ Small = λ h. never (is_small.1 h) p in
            record {
              repeated = (λ e. absurd (omega (arith, none s p, e)), λ h. absurd (differ h));
              packed = (λ e. absurd (omega (arith, none s p, e)), λ h. absurd (large h.1));
              raw = (λ e. (differ, large), λ h. none s p);
            }
      ]

-- ---- timestamps

divided-by : (k : ℕ) (ds : List ℕ) → (every (λ d. eqb (d % 10 ^ k) 0) ds ≡ true) ↔ Each (λ d. d % 10 ^ k ≡ 0) ds
divided-by k ds = every-says (λ d. eqb (d % 10 ^ k) 0) (λ d. eqb-exactly (d % 10 ^ k) 0) ds

largest : (ds : List ℕ) → LargestExponent ds (exponent exponent_most ds)
largest ds = record {
  most = exponent-most ds exponent_most;
  divides = (divided-by (exponent exponent_most ds) ds).0 (exponent-divides ds exponent_most);
  largest = λ k h d. exponent-largest ds exponent_most k h ((divided-by k ds).1 d);
}

one-largest : (ds : List ℕ) (e : ℕ) → LargestExponent ds e → exponent exponent_most ds ≡ e
one-largest ds e l =
    let ours = largest ds in
    omega (arith, ours.largest e l.most l.divides, l.largest (exponent exponent_most ds) ours.most ours.divides)

module _ (e : ℕ) (most : e ≤ exponent_most) (t : ℤ) (ds : List ℕ) where
  times-with : FormBy (Alike 1 ds) (Each (λ d. d / 10 ^ e ≤ packed_most) ds) (times_with e t ds)
  times-with =
      form-by (alike 1 ds) (every-says (λ d. leb (d / 10 ^ e) packed_most) (λ d. leb-exactly (d / 10 ^ e) packed_most) ds) (times_with e t ds)
      (λ same. rw (times_with-repeated e t ds same) (omega arith))
      (λ same small. rw (times_with-packed e t ds same small) (omega arith))
      (λ same large. rw (times_with-raw e t ds same large) (omega arith))

times-form : (t : ℤ) (ts : List ℤ) (e : ℕ) → LargestExponent (differences_from t ts) e
    → FormBy (Alike 1 (differences_from t ts)) (Each (λ d. d / 10 ^ e ≤ packed_most) (differences_from t ts)) (times_section (t ∷ ts))
unfolding times_section
times-form t ts e l = rw (one-largest (differences_from t ts) e l) (times-with e l.most t (differences_from t ts))

-- ---- integers

integers-form : (v : ℕ) (vs : List ℕ) → FormBy (Alike 2 (stored_from v vs)) (Each (λ s. s ≤ packed_most) (stored (v ∷ vs))) (integers_section (v ∷ vs))
integers-form v vs =
    let ss = stored_from v vs in
    let section = integers_section (v ∷ vs) in
    form-by (alike 2 ss) (every-says (λ x. leb x packed_most) (λ x. leb-exactly x packed_most) (stored (v ∷ vs))) section
    (λ same. rw (stored_section-repeated _ ss same))
    (λ same small. rw (stored_section-packed _ ss same small))
    (λ same large. rw (stored_section-raw _ ss same large))

pub writer_forms : WriterForms
writer_forms = record {
  exponent = λ ds. (exponent exponent_most ds, largest ds);
  times = times-form;
  integers = integers-form;
  spread_times = λ section t ts few ascending signed64.
      times-read section _ (t ∷ ts) (record {
        first = t;
        later = ts;
        times = refl;
        few = few;
        ascending = ascending;
        signed64 = signed64;
        form = TimesForm.raw refl;
      });
  spread_integers = λ section vs fits. integers-read section _ vs (record { fits64 = fits; form = IntegersForm.raw refl });
}

-- The test that gives a pass up, and the answer to the length of an image.
--   past-block, past-entry                   the test, by its parts
--   past-both, past-neither, past_near       what it says
--   judged-long, judged-short, judged-fits   the answer, by its tests
--   Answers, judged-answers                  it is the answer of the acts, with what becomes of the buffer
use Prim.Native.Nat.{ℕ, ◌≤◌, ◌<◌}
use mathlib.Core.Path.{◌≡◌, refl, sym, ap, ◌∙◌}
use mathlib.Core.Logic.{⊎_elim}
use mathlib.Core.Bool.{Bool, true, false, ◌||◌}
use mathlib.Core.List.{List}
use native.Mathlib.Omega.{arith}
use lib.Dec.{ltb}
use lib.ListN.{length}
use borrow.Author.Tests.{lt-ltb, le-ltb, lt-leb, le-leb, ltb-false}
use Rattle.format.specs.declared.Refusal.{Refusal}
use Rattle.format.specs.declared.Refusal.TheVariants.{ShortBuffer, ImageTooLong}
use Rattle.format.specs.Limits.{image_most}
use Rattle.format.specs.Bytes.{overwrite}
use Rattle.format.specs.Refusals.{Outcome, refused, answer_of}
use Rattle.format.specs.Meaning.{Meaning}
use Rattle.format.specs.Writer.{writer_image}
use Rattle.format.specs.Acts.{laid, image_result, written_says, sized}
use Rattle.format.proofs.Cases.{below_or}
use Rattle.format.proofs.Acts.{image-long, image-short, image-fits}
use Rattle.std.specs.Prelude.{Result, Ok, Err}
use Rattle.builder.specs.declared.Ends.{Ends}
use Rattle.builder.specs.Passes.{Near}
use Rattle.builder.specs.Judging.{past_image, judged}

module _ (e : Ends) where
  pub past-block : image_most < e.block.0 → past_image e ≡ true
  unfolding past_image
  past-block h = rw (lt-ltb image_most e.block.0 h)

  pub past-entry : e.block.0 ≤ image_most → ltb image_most e.entry.0 ≡ past_image e
  unfolding past_image
  past-entry h = rw (le-ltb image_most e.block.0 h)

  -- the places are not both within an image
  pub past-both : past_image e ≡ true → e.block.0 ≤ image_most → e.entry.0 ≤ image_most → ⊥
  unfolding past_image
  past-both h x y = let z : ◌≡◌ {A = Bool} false true = rw (le-ltb image_most e.block.0 x, le-ltb image_most e.entry.0 y) at h in let w : ◌≡◌ {A = ℕ} 0 1 = cc in omega arith

  -- the places are both within an image
  pub past-neither : past_image e ≡ false → (e.block.0 ≤ image_most) × (e.entry.0 ≤ image_most)
  unfolding past_image
  past-neither h = by (ltb image_most e.block.0) refl (ltb image_most e.entry.0) refl h
    where
      by : (x : Bool) → ltb image_most e.block.0 ≡ x → (y : Bool) → ltb image_most e.entry.0 ≡ y → x || y ≡ false → (e.block.0 ≤ image_most) × (e.entry.0 ≤ image_most)
      by false p false q k = (ltb-false image_most e.block.0 p, ltb-false image_most e.entry.0 q)
      by false p true q k = let w : ◌≡◌ {A = ℕ} 0 1 = cc in absurd (omega arith)
      by true p false q k = let w : ◌≡◌ {A = ℕ} 0 1 = cc in absurd (omega arith)
      by true p true q k = let w : ◌≡◌ {A = ℕ} 0 1 = cc in absurd (omega arith)

  pub past_near : past_image e ≡ false → Near e
  past_near h = let within = past-neither h in record { block_near = omega (arith, within.0); entry-near = omega (arith, within.1) }

module _ (total room : ℕ) where
  pub judged-long : image_most < total → judged total room ≡ Err ImageTooLong
  unfolding judged
  judged-long h = rw (lt-leb total image_most h)

  pub judged-short : total ≤ image_most → room < total → judged total room ≡ Err ShortBuffer
  unfolding judged
  judged-short h k = rw (le-leb total image_most h, lt-leb total room k)

  pub judged-fits : total ≤ image_most → total ≤ room → judged total room ≡ Ok total
  unfolding judged
  judged-fits h k = rw (le-leb total image_most h, le-leb total room k)

-- ---- the answer and the buffer of an act, of the meaning m

module _ (m : Meaning) (out : List ℕ) where
  abbrev total : ℕ
  total = length (writer_image m)

  -- the answer, and the buffer unless it is laid over
  pub record Answers (answer : Result ℕ Refusal) : Type 0 where
    pub says : written_says answer ≡ answer_of (sized (image_result m out))
    pub left : (r : Refusal) → answer ≡ Err r → laid (image_result m out) out ≡ out
    pub laid-over : (n : ℕ) → answer ≡ Ok n → (total ≤ image_most) × (total ≤ length out) × (laid (image_result m out) out ≡ overwrite (writer_image m) out)

  pub judged-answers : Answers (judged total (length out))
  judged-answers =
      ⊎_elim
      (λ (h : image_most < total). refusing ImageTooLong (judged-long total (length out) h) (image-long m out h))
      (λ (h : total ≤ image_most).
      ⊎_elim
      (λ (k : length out < total). refusing ShortBuffer (judged-short total (length out) h k) (image-short m out h k))
      (λ (k : total ≤ length out). record {
        says = ap written_says (judged-fits total (length out) h k) ∙ ap (λ (x : Outcome (List ℕ)). answer_of (sized x)) (sym (image-fits m out h k));
        left = λ r e. let f = judged-fits total (length out) h k in let w : ◌≡◌ {A = ℕ} 0 1 = cc in absurd (omega arith);
        laid-over = λ n e. (h, k, ap (λ (x : Outcome (List ℕ)). laid x out) (image-fits m out h k));
      })
      (below_or (length out) total))
      (below_or image_most total)
    where
      refusing : (r : Refusal) → judged total (length out) ≡ Err r → image_result m out ≡ refused r 0 → Answers (judged total (length out))
      refusing r j i = record {
        says = ap written_says j ∙ ap (λ (x : Outcome (List ℕ)). answer_of (sized x)) (sym i);
        left = λ q e. ap (λ (x : Outcome (List ℕ)). laid x out) i;
        laid-over = λ n e. let w : ◌≡◌ {A = ℕ} 0 1 = cc in absurd (omega arith);
      }

-- The two passes over any meaning m, judged between them: the answer, and what becomes of the lent buffer.
--   image-long                 the first pass was given up: 22
--   image-left                 `judge` refuses: 22 or 19
--   image-fits                 it does not: the second pass has its place
--   image-written              the second pass, header and footer leave the image
use Prim.Native.Nat.{ℕ, ◌+◌, ◌≤◌}
use mathlib.Core.Path.{◌≡◌, ap, sym, ◌∙◌}
use mathlib.Core.List.{List}
use lib.ListN.{length}
use Rattle.format.specs.declared.Refusal.{Refusal}
use Rattle.format.specs.declared.Refusal.TheVariants.{ImageTooLong}
use Rattle.std.specs.Prelude.{Result, Ok, Err}
use Rattle.format.specs.Limits.{image_most}
use Rattle.format.specs.Bytes.{overwrite}
use Rattle.format.specs.Meaning.{Meaning}
use Rattle.format.specs.Writer.{writer_image}
use Rattle.format.specs.Acts.{laid, image_result, written_says, sized}
use Rattle.builder.specs.declared.Ends.{Ends}
use Rattle.builder.specs.declared.Mode.{Mode}
use Rattle.builder.specs.Steps.{Closed, series_end, first_ends}
use Rattle.builder.specs.Passes.{Past, Measured}
use Rattle.builder.proofs.Images.{measured-past, measured-blocks, measured}
use Rattle.builder.specs.Judging.{judged}
use Rattle.builder.proofs.Judges.{Answers, judged-answers, judged-long}
use Rattle.format.specs.Refusals.{answer_of}

module _ (m : Meaning) (out : List ℕ) where
  -- an answer and the bytes afterwards are right
  abbrev Right : Result ℕ Refusal → List ℕ → Type 0
  Right answer after = (written_says answer ≡ answer_of (sized (image_result m out))) × (after ≡ laid (image_result m out) out)

  answers : Answers m out (judged (length (writer_image m)) (length out))
  answers = judged-answers m out

  pub image-long : (lent : List ℕ) → Past (series_end Mode.Measure m first_ends lent) → Right (Err ImageTooLong) out
  image-long lent h =
      let long = judged-long (length (writer_image m)) (length out) (measured-past m lent h) in
      (ap written_says (sym long) ∙ answers.says, sym (answers.left ImageTooLong long))

  -- the first pass ended, and its length was judged
  module _ (ends : Ends) (bytes lent : List ℕ) (c : ◌≡◌ {A = Closed} (record { ends = ends; bytes = bytes }) (series_end Mode.Measure m first_ends lent))
      (answer : Result ℕ Refusal) (says : answer ≡ judged (ends.block.0 + ends.entry.0 + 8) (length out)) where
    is-judged : answer ≡ judged (length (writer_image m)) (length out)
    is-judged = says ∙ ap (λ (n : ℕ). judged n (length out)) (measured m ends bytes lent c)

    pub image-left : (r : Refusal) → answer ≡ Err r → Right answer out
    image-left r e = (ap written_says is-judged ∙ answers.says, sym (answers.left r (sym is-judged ∙ e)))

    module _ (n : ℕ) (e : answer ≡ Ok n) where
      over : (length (writer_image m) ≤ image_most) × (length (writer_image m) ≤ length out) × (laid (image_result m out) out ≡ overwrite (writer_image m) out)
      over = answers.laid-over n (sym is-judged ∙ e)

      pub image-fits : Measured m ends.block out
      image-fits = record { blocks = measured-blocks m ends bytes lent c; short = over.0; fits = over.1 }

      pub image-written : (done : List ℕ) → done ≡ overwrite (writer_image m) out → Right (Ok n) done
      image-written done f = (ap written_says (sym e ∙ is-judged) ∙ answers.says, f ∙ sym over.2)

-- What a row answers, and what it leaves in the lent slice, by what the code tests and its reader answers.
--   row-short   the slice is too short
--   row_read    the section is read, or refused
use Rattle.std.specs.Prelude.{Result}
use Prim.Native.Nat.{ℕ, ◌≤◌, ◌<◌}
use mathlib.Core.Path.{◌≡◌, refl, sym, ap, ◌∙◌}
use mathlib.Core.List.{List, ◌++◌}
use lib.ListN.{length, take, drop, take-append-drop}
use lib.Seq.{length-take-le}
use borrow.Author.Tests.{le-leb, lt-leb}
use Rattle.format.specs.Refusals.{Outcome, ok, refused}
use Rattle.format.specs.Booleans.{read_booleans}
use Rattle.format.proofs.Splices.{overwrite-whole}
use Rattle.booleans.proofs.Reading.{read-values}
use Rattle.format.specs.Acts.{laid}
use Rattle.format.specs.declared.Broken.{Broken}
use Rattle.booleans.specs.Section.{answer_of}
use Rattle.bench_booleans.specs.Rows.{read_number, row_number, row_values}

module _ (n : ℕ) (section values : List ℕ) where
  pub row-short : length values < n → (2 ≡ row_number n section values) × (values ≡ row_values n section values)
  row-short h = rw (lt-leb n (length values) h) (refl, refl)

  -- the first n cells laid, and those after them
  laid-part : (r : Outcome (List ℕ)) → read_booleans n 0 section ≡ r → n ≤ length values → laid r (take n values) ++ drop n values ≡ laid r values
  laid-part (ok vs) e h =
      let count : length vs ≡ n = (read-values n 0 section vs e).0 in
      rw (overwrite-whole vs (take n values) (length-take-le n values h ∙ sym count), ← count)
  laid-part (refused r place) e h = take-append-drop n values

  pub row_read : n ≤ length values → (number : ℕ) (answer : Result (Unit {0}) Broken) (new : List ℕ) → number ≡ read_number answer
      → answer ≡ answer_of (read_booleans (length (take n values)) 0 section) → new ≡ laid (read_booleans (length (take n values)) 0 section) (take n values)
      → (number ≡ row_number n section values) × (new ++ drop n values ≡ row_values n section values)
  row_read h number answer new e a v =
      let count : length (take n values) ≡ n = length-take-le n values h in
      rw (le-leb n (length values) h) (e ∙ ap read_number (rw count at a), rw (rw count at v) (laid-part (read_booleans n 0 section) refl h))

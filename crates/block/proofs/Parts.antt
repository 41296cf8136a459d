-- What reading the two sections answers, of the answers of their readers.
--   times-refused, values-refused   a section is broken
--   both_read                       both are read: the points, and the cells that hold them
use Rattle.std.specs.Prelude.{Result, Ok, Err}
use Prim.Native.Nat.{ℕ, ◌+◌, ◌-◌}
use mathlib.Core.Path.{◌≡◌, ap, sym, ◌∙◌}
use mathlib.Core.List.{List}
use lib.IntN.{ℤ}
use lib.ListN.{length, take, drop}
use Rattle.format.specs.declared.Kind.{Kind}
use Rattle.format.specs.declared.Fault.{Fault}
use Rattle.format.specs.Refusals.{Outcome, faulted}
use Rattle.format.proofs.Told.{faulted-err}
use Rattle.format.specs.Meaning.{Point}
use Rattle.format.specs.Timestamps.{read_times}
use Rattle.format.specs.Block.{read_values, points_from}
use Rattle.format.proofs.Points.{points-times, points-values, points-length}
use Rattle.block.specs.Parts.{read_parts}
use Rattle.block.specs.Answers.{block_answer, PointsLaid}
use Rattle.block.proofs.Sections.{TimesAre, ValuesAre}
use Rattle.block.proofs.Bodies.{parts-times, parts-values, parts-read}
use Rattle.block.proofs.Answers.{refused-answer, points-answer}

module _ (kind : Kind) (offset next split : ℕ) (s : List ℕ) (old_times new_times : List ℤ) (old_values new_values : List ℕ) where
  abbrev times_part : List ℕ
  times_part = take (split - next) (drop next s)

  abbrev values_part : List ℕ
  values_part = drop split s

  abbrev parts : Outcome (List Point)
  parts = read_parts kind offset next split s

  -- an answer, and the cells after it
  abbrev Answers : Result ℕ Fault → Type 0
  Answers r = (r ≡ block_answer parts) × PointsLaid parts old_times new_times old_values new_values

  pub times-refused : (fault : Fault) → Err fault ≡ faulted length (read_times (next + offset) times_part) → Answers (Err fault)
  times-refused fault e =
      refused-answer old_times new_times old_values new_values fault.refusal fault.place.0
      (parts-times kind offset next split s fault.refusal fault.place.0 (faulted-err length (read_times (next + offset) times_part) fault (sym e)))

  module _ (n : ℕ) (ts : TimesAre (next + offset) n times_part old_times new_times) where
    -- as many values as there are times
    counted : read_values kind (length ts.times) (split + offset) values_part ≡ read_values kind n (split + offset) values_part
    counted = ap (λ (m : ℕ). read_values kind m (split + offset) values_part) ts.count

    pub values-refused : (fault : Fault) → Err fault ≡ faulted (λ _. tt {0}) (read_values kind n (split + offset) values_part) → Answers (Err fault)
    values-refused fault e =
        refused-answer old_times new_times old_values new_values fault.refusal fault.place.0
        (parts-values kind offset next split s ts.times ts.read fault.refusal fault.place.0
        (counted ∙ faulted-err (λ _. tt {0}) (read_values kind n (split + offset) values_part) fault (sym e)))

    pub both_read : ValuesAre kind (split + offset) n values_part old_values new_values → Answers (Ok n)
    both_read vs =
        let same : length vs.values ≡ length ts.times = vs.count ∙ sym ts.count in
        points-answer old_times new_times old_values new_values n (points_from ts.times vs.values)
        (parts-read kind offset next split s ts.times ts.read vs.values (counted ∙ vs.read))
        (points-length ts.times vs.values same ∙ ts.count)
        (rw (points-times ts.times vs.values same) ts.cells)
        (rw (points-values ts.times vs.values same) vs.cells)

-- Both reads, by what find gave: what it refused, and the points of the block that was found.
--   follows         what find refuses, both reads refuse
--   point-refused, point-given, point-found   read point
--   short-block     read block is refused as 19 only where a slice is too short
use Prim.Native.Nat.{ℕ, ◌≤◌, ◌<◌}
use mathlib.Core.Path.{◌≡◌, sym, ap, ◌∙◌}
use mathlib.Core.Logic.{◌⊎◌, inl, inr, ⊎_elim}
use mathlib.Core.List.{List}
use mathlib.Core.Option.{Option}
use lib.ListN.{length}
use lib.IntN.{ℤ}
use Rattle.format.specs.declared.Entry.{Entry}
use Rattle.format.specs.declared.Refusal.{Refusal}
use Rattle.format.specs.Refusals.{Outcome, ok, refused, ◌>>=◌, refuses, answer_of}
use Rattle.format.specs.Signed.{signed}
use Rattle.format.specs.Meaning.{Point, value_at}
use Rattle.format.specs.Block.{read_block}
use Rattle.format.specs.File.{block_of}
use Rattle.format.specs.Find.{find_entry, find_block, exact_value, value_there}
use Rattle.format.specs.Acts.{find_answer, read_block_result, read_block_answer, read_point_result, counted}
use Rattle.format.proofs.Answers.{answer-number}
use Rattle.format.proofs.Acts.{find-refused, block-given}
use Rattle.format.proofs.Results.{bind_ok, ok-path}
use Rattle.theorems.proofs.Steps.{ok-not}
use Rattle.format.proofs.Cases.{below_or}
use Rattle.theorems.specs.Demand2.{Follows}

-- ---- what find refuses, both reads refuse

block_refused : (image key : List ℕ) (t : ℤ) (times values : List ℤ) (r : Refusal) (place : ℕ) → find_entry image key t ≡ refused r place
    → read_block_result image key t times values ≡ refused r place
unfolding read_block_result
block_refused image key t times values r place e = rw (find-refused image key t r place e)

pub point-refused : (image key : List ℕ) (t : ℤ) (r : Refusal) (place : ℕ) → find_entry image key t ≡ refused r place
    → read_point_result image key t ≡ refused r place
unfolding read_point_result
point-refused image key t r place e = rw (find-refused image key t r place e)

pub follows : (image key : List ℕ) (t : ℤ) (number : ℕ) → find_answer image key t ≡ refuses number → Follows image key t number
follows image key t number h =
    let (r, place, e, same) = answer-number (find_entry image key t) number h in
    record {
      block = λ times values. ap (λ x. answer_of (counted x)) (block_refused image key t times values r place e) ∙ ap refuses same;
      point = ap answer_of (point-refused image key t r place e) ∙ ap refuses same;
    }

-- ---- the value at an exact time

-- a value that is found, with the entry
abbrev pub answer_at : Entry → Option ℕ → Outcome (Entry × ℤ)
answer_at e x = value_there x >>= λ v. ok (e, signed v)

-- read block, by its points
module _ (image key : List ℕ) (t : ℤ) (times values : List ℤ) (e : Entry) (ps : List Point) (f : find_block image key t ≡ ok (e, ps)) where
  pub short-block : read_block_answer image key t times values ≡ refuses 19 → (length times < length ps) ⊎ (length values < length ps)
  short-block h =
      ⊎_elim inl
      (λ (a : length ps ≤ length times).
      ⊎_elim inr
      (λ (b : length ps ≤ length values).
      ok-not (sym (ap (λ x. answer_of (counted x)) (block-given image key t e ps f times values a b)) ∙ h))
      (below_or (length values) (length ps)))
      (below_or (length times) (length ps))

-- read point, by the block's points
pub point-given : (image key : List ℕ) (t : ℤ) (e : Entry) (ps : List Point) → find_block image key t ≡ ok (e, ps)
    → read_point_result image key t ≡ answer_at e (value_at t ps)
unfolding read_point_result exact_value
point-given image key t e ps f = rw f

-- a point read was found
pub point-found : (image key : List ℕ) (t : ℤ) (e : Entry) (v : ℤ) → read_point_result image key t ≡ ok (e, v) → find_entry image key t ≡ ok e
unfolding read_point_result find_block
point-found image key t e v h =
    let (b, found, rest) = bind_ok (find_block image key t) _ (e, v) h in
    let (w, exact, same) = bind_ok (exact_value t b.1) _ (e, v) rest in
    let (f, entry, more) = bind_ok (find_entry image key t) _ b found in
    let (ps, read, made) = bind_ok (read_block f (block_of image f)) _ b more in
    entry ∙ ap ok (ap (λ (q : Entry × List Point). q.0) (ok-path made) ∙ ap (λ (q : Entry × ℤ). q.0) (ok-path same))

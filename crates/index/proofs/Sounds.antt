-- A cursor stays within the index.
--   StepSound, step-sound     a step leads to a sound cursor further on
--   first-sound               the first cursor is sound
use Prim.Native.Nat.{ℕ, zero, suc, ◌+◌, ◌-◌, ◌*◌, ◌≤◌, ◌<◌, zero-le}
use mathlib.Core.Path.{◌≡◌, refl}
use mathlib.Core.Bool.{Bool, true, false}
use mathlib.Core.List.{List}
use native.Mathlib.Omega.{arith}
use lib.ListN.{length, drop, length-drop}
use lib.Dec.{eqb}
use Rattle.format.specs.declared.Kind.{Kind}
use Rattle.format.specs.declared.Refusal.TheVariants.{BlockPlace}
use Rattle.format.specs.Limits.{image_most}
use Rattle.std.specs.Prelude.{if◌then◌else◌, None, Result, Ok, Err}
use Rattle.format.specs.declared.Fault.{Fault}
use Rattle.format.specs.Choice.{is_empty}
use Rattle.format.specs.Refusals.{Outcome, ok, refused, faulted, require}
use Rattle.format.specs.Index.{block_span, check_entry}
use Rattle.index.specs.declared.Cursor.{Cursor}
use Rattle.index.specs.declared.Step.{Step}
use Rattle.index.specs.Cursors.{key_at, max_of, read_head, head_of, opened, opened_at, taken, entry_check_of, entry_at, taken_at, step_of, step_at, first_cursor, Sound}
use Rattle.index.proofs.Fits.{HeadFits, head-fits, BlockFits, EntryFits, entry-fits}
use Rattle.index.proofs.Walks.{step-open, step-take}

-- a step leads on, to a cursor within the index; an entry's block stands within x
abbrev pub StepSound : List ℕ → (x : ℕ) → Cursor → Result Step Fault → Type 0
StepSound index x c (Ok (Step.Key d)) = Sound index x d × (c.at.0 < d.at.0) × (1 ≤ d.left)
StepSound index x c (Ok (Step.Entry e d)) = Sound index x d × (c.at.0 < d.at.0) × BlockFits x c.ended.0 e
StepSound index x c (Ok Step.End) = Unit {0}
StepSound index x c (Err fault) = Unit {0}

module _ (index : List ℕ) (x : ℕ) (c : Cursor) (s : Sound index x c) where
  end-sound : (t : Bool) → StepSound index x c (step_of (faulted (λ _. None) (require t BlockPlace (x + c.at.0))))
  end-sound true = tt
  end-sound false = tt

  head-sound : (r : Outcome (ℕ × Kind × ℕ)) → HeadFits (drop c.at.0 index) r → StepSound index x c (step_of (opened c (head_of r)))
  head-sound (ok h) f =
      let room : h.0 + 5 + h.2 * 28 ≤ length index - c.at.0 = simp length-drop at f.0 in
      (record { image = s.image; entries = omega (arith, s.entries); key = omega (arith, s.entries); ended = s.ended }, omega arith, f.1)
  head-sound (refused r place) f = tt

  open-by-sound : (t : Bool) → StepSound index x c
      (step_of (if t then faulted (λ _. None) (require (eqb c.ended.0 x) BlockPlace (x + c.at.0))
      else opened c (head_of (read_head (x + c.at.0) (key_at index c.key) (drop c.at.0 index)))))
  open-by-sound true = end-sound (eqb c.ended.0 x)
  open-by-sound false =
      head-sound (read_head (x + c.at.0) (key_at index c.key) (drop c.at.0 index))
      (head-fits (x + c.at.0) (key_at index c.key) (drop c.at.0 index))

  pub open-sound : StepSound index x c (step_of (opened_at index x c))
  unfolding opened_at
  open-sound = open-by-sound (is_empty (drop c.at.0 index))

  checked-sound : 1 ≤ c.left → (r : Outcome (Unit {0})) → EntryFits x c.ended.0 (entry_at index c) r → StepSound index x c (taken c (entry_at index c) (entry_check_of r))
  checked-sound more (ok u) f =
      (record { image = s.image; entries = omega (arith, s.entries); key = s.key; ended = omega (arith, f.within, f.at-end) }, omega arith, f)
  checked-sound more (refused r place) f = tt

  pub take-sound : 1 ≤ c.left → StepSound index x c (taken_at index x c)
  unfolding taken_at
  take-sound more =
      checked-sound more (check_entry (block_span c.ended.0 x) (x + c.at.0) (max_of c.before) (entry_at index c))
      (entry-fits x (x + c.at.0) c.ended.0 (max_of c.before) (entry_at index c))

  sound-by : (l : ℕ) → c.left ≡ l → StepSound index x c (step_at index x c)
  sound-by zero e = rw (step-open index x c e) open-sound
  sound-by (suc k) e = rw (step-take index x c (λ (z : c.left ≡ 0). omega arith)) (take-sound (omega arith))

  pub step-sound : StepSound index x c (step_at index x c)
  step-sound = sound-by c.left refl

pub first-sound : (index : List ℕ) (x : ℕ) → x + length index ≤ image_most → 5 ≤ x → Sound index x first_cursor
first-sound index x h k = record { image = h; entries = zero-le; key = zero-le; ended = k }

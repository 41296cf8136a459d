-- A loop over the steps of a cursor whose answer is decided by what is left: what it makes of the rest, from where it stands, is what it makes of
-- the whole index.
--   Deciding     the state of such a loop: a sound cursor, and what the loop makes of what is left from there
--   AfterKey, AfterEntry, After, loop-step   what each step gives the loop: fewer bytes are left, and its next state
--   loop-open                                the same of a key that is opened
--   AfterEntries, AfterSkip, loop-skip       the same of all entries of a key at once
use Prim.Native.Nat.{ℕ, ◌-◌, ◌<◌}
use mathlib.Core.Path.{◌≡◌, ap, sym, ◌∙◌}
use mathlib.Core.List.{List, []}
use native.Mathlib.Omega.{arith}
use lib.ListN.{length}
use Rattle.std.specs.Prelude.{Option, Result, Ok, Err}
use Rattle.format.specs.declared.Entry.{Entry}
use Rattle.format.specs.declared.Fault.{Fault}
use Rattle.format.specs.declared.ImagePlace.{ImagePlace}
use Rattle.format.specs.Refusals.{ok, refused}
use Rattle.index.specs.declared.Cursor.{Cursor}
use Rattle.index.specs.declared.Step.{Step}
use Rattle.index.specs.Cursors.{between, opened_at, step_of, skipped_at, past_entries, entries_at, step_at, rest, Sound}
use Rattle.index.proofs.Walks.{Remaining, before_key, before_entry, step-between}
use Rattle.index.proofs.Skips.{before_entries, OnEntries, on-entries, skip-refused}
use Rattle.index.proofs.Steps.{OnKey, on-key, OnEntry, on-entry, at-end, at-refusal}

-- the loop stands at c, and makes `decide` of what is left
pub record Deciding {A : Type 0} (index : List ℕ) (x : ℕ) (whole : A) (c : Cursor) (decide : Remaining → A) : Type 0 where
  pub sound : Sound index x c
  pub same : decide (rest index x c) ≡ whole

-- the next key is at d: any `next` that agrees with `decide` may go on
pub record AfterKey {A : Type 0} (index : List ℕ) (x : ℕ) (whole : A) (c : Cursor) (decide : Remaining → A) (d : Cursor) : Type 0 where
  pub step : OnKey index x c d
  pub less : length index - d.at.0 < length index - c.at.0
  pub on : (next : Remaining → A) → ((later : Remaining) → decide (before_key index d later) ≡ next later) → Deciding index x whole d next

-- the next entry is v, and d is past it
pub record AfterEntry {A : Type 0} (index : List ℕ) (x : ℕ) (whole : A) (c : Cursor) (decide : Remaining → A) (v : Entry) (d : Cursor) : Type 0 where
  pub step : OnEntry index x c v d
  pub less : length index - d.at.0 < length index - c.at.0
  pub on : (next : Remaining → A) → ((later : Remaining) → decide (before_entry v later) ≡ next later) → Deciding index x whole d next

-- at the end, and at a refusal, what the loop makes of it is the answer
abbrev pub After : {A : Type 0} (index : List ℕ) (x : ℕ) (whole : A) (c : Cursor) (decide : Remaining → A) → Result Step Fault → Type 0
After index x whole c decide (Ok (Step.Key d)) = AfterKey index x whole c decide d
After index x whole c decide (Ok (Step.Entry v d)) = AfterEntry index x whole c decide v d
After index x whole c decide (Ok Step.End) = decide (ok ([], [])) ≡ whole
After index x whole c decide (Err fault) = decide (refused fault.refusal fault.place.0) ≡ whole

module _ {A : Type 0} (index : List ℕ) (x : ℕ) (whole : A) (c : Cursor) (decide : Remaining → A) (now : Deciding index x whole c decide) where
  pub loop-step : (s : Result Step Fault) → step_at index x c ≡ s → After index x whole c decide s
  loop-step (Ok (Step.Key d)) e =
      let step = on-key index x c now.sound d e in
      record {
        step = step;
        less = omega (arith, step.further, step.sound.entries);
        on = λ next agree. record { sound = step.sound; same = sym (agree (rest index x d)) ∙ sym (ap decide step.was) ∙ now.same };
      }
  loop-step (Ok (Step.Entry v d)) e =
      let step = on-entry index x c now.sound v d e in
      record {
        step = step;
        less = omega (arith, step.further, step.sound.entries);
        on = λ next agree. record { sound = step.sound; same = sym (agree (rest index x d)) ∙ sym (ap decide step.was) ∙ now.same };
      }
  loop-step (Ok Step.End) e = sym (ap decide (at-end index x c e)) ∙ now.same
  loop-step (Err fault) e = sym (ap decide (at-refusal index x c fault e)) ∙ now.same

  pub loop-open : c.left ≡ 0 → (o : Result (Option Cursor) Fault) → opened_at index x (between c.at c.ended c.key) ≡ o → After index x whole c decide (step_of o)
  loop-open none o e = loop-step (step_of o) (step-between index x c none ∙ ap step_of e)

-- d is past the entries of the key of c
pub record AfterEntries {A : Type 0} (index : List ℕ) (x : ℕ) (whole : A) (c : Cursor) (decide : Remaining → A) (d : Cursor) : Type 0 where
  pub step : OnEntries index x c d
  pub on : (next : Remaining → A) → ((later : Remaining) → decide (before_entries (entries_at index c) later) ≡ next later) → Deciding index x whole d next

abbrev pub AfterSkip : {A : Type 0} (index : List ℕ) (x : ℕ) (whole : A) (c : Cursor) (decide : Remaining → A) → Result ImagePlace Fault → Type 0
AfterSkip index x whole c decide (Ok last) = AfterEntries index x whole c decide (past_entries c last)
AfterSkip index x whole c decide (Err fault) = decide (refused fault.refusal fault.place.0) ≡ whole

module _ {A : Type 0} (index : List ℕ) (x : ℕ) (whole : A) (c : Cursor) (decide : Remaining → A) (now : Deciding index x whole c decide) where
  pub loop-skip : (s : Result ImagePlace Fault) → skipped_at index x c ≡ s → AfterSkip index x whole c decide s
  loop-skip (Ok last) e =
      let step = on-entries index x c now.sound last e in
      record {
        step = step;
        on = λ next agree.
            record { sound = step.sound; same = sym (agree (rest index x (past_entries c last))) ∙ sym (ap decide step.was) ∙ now.same };
      }
  loop-skip (Err fault) e = sym (ap decide (skip-refused index x c fault e)) ∙ now.same

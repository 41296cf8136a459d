-- A cursor where what is left is good, by whether an entry of the key is left.
--   none_left     no entry of the key is left: none is read
--   good-take     an entry is left: the step takes it
--   entry-not     no entry is left: no step takes one
--   entry_past    a step that takes an entry leads past it, in the same key
use Prim.Native.Nat.{ℕ, zero, suc, ◌+◌, ◌*◌}
use mathlib.Core.Path.{◌≡◌, refl, ap, sym, ◌∙◌}
use mathlib.Core.List.{List, [], ◌∷◌}
use native.Mathlib.Omega.{arith}
use lib.ListN.{length, drop}
use Rattle.std.specs.Prelude.{Result, Ok}
use Rattle.format.specs.declared.Entry.{Entry}
use Rattle.format.specs.declared.Fault.{Fault}
use Rattle.format.specs.Refusals.{Outcome, ok, refused, ◌>>=◌}
use Rattle.format.specs.Index.{block_span, IndexKey, check_entry, read_entries, read_keys}
use Rattle.format.proofs.Results.{refused-not, ok-path}
use Rattle.index.specs.declared.Cursor.{Cursor}
use Rattle.index.specs.declared.Step.{Step}
use Rattle.index.specs.Cursors.{key_at, max_of, entry_check_of, past, taken, entry_at, taken_at, step_at, rest_from, rest, Sound}
use Rattle.index.proofs.Rests.{keys_only}
use Rattle.index.proofs.Walks.{step-take}
use Rattle.index.proofs.Steps.{good-entry, never-refused}

module _ (index : List ℕ) (x : ℕ) (c : Cursor) (s : Sound index x c) (es : List Entry) (ks : List IndexKey) (good : rest index x c ≡ ok (es, ks)) where
  keys-by : (r : Outcome (List IndexKey)) → (r >>= keys_only) ≡ ok (es, ks) → es ≡ []
  keys-by (ok keys) e = ap (λ (p : List Entry × List IndexKey). p.0) (sym (ok-path e))
  keys-by (refused r place) e = refused-not e

  left_by : (l : ℕ) → l ≡ 0
      → rest_from c.kind x l (x + c.at.0) c.ended.0 (max_of c.before) (key_at index c.key) (drop c.at.0 index) ≡ ok (es, ks) → es ≡ []
  unfolding rest_from read_entries
  left_by zero e g =
      let bs = drop c.at.0 index in
      keys-by (read_keys (length (drop (0 * 28) bs)) (block_span c.ended.0 x) (x + c.at.0 + 0 * 28) (key_at index c.key) (drop (0 * 28) bs)) g
  left_by (suc l) e g = absurd (omega arith)

  pub none_left : c.left ≡ 0 → es ≡ []
  none_left e = left_by c.left e good

  take_by : (r : Outcome (Unit {0})) → step_at index x c ≡ taken c (entry_at index c) (entry_check_of r) → step_at index x c ≡ Ok (Step.Entry (entry_at index c) (past c (entry_at index c)))
  take_by (ok u) e = e
  take_by (refused r place) e = absurd (never-refused index x c s es ks good (record { refusal = r; place = record { 0 = place } }) e)

  pub good-take : (c.left ≡ 0 → ⊥) → step_at index x c ≡ Ok (Step.Entry (entry_at index c) (past c (entry_at index c)))
  unfolding taken_at
  good-take more =
      take_by (check_entry (block_span c.ended.0 x) (x + c.at.0) (max_of c.before) (entry_at index c)) (step-take index x c more)

  pub entry-not : c.left ≡ 0 → (v : Entry) (d : Cursor) → step_at index x c ≡ Ok (Step.Entry v d) → ⊥
  entry-not none v d e =
      let more = good-entry index x c s es ks good v d e in
      let is : v ∷ more.0 ≡ [] = sym more.2 ∙ none_left none in
      let z : ◌≡◌ {A = ℕ} 0 1 = cc in omega arith

  past_by : (v : Entry) (d : Cursor) → step_at index x c ≡ Ok (Step.Entry v d) → (l : ℕ) → c.left ≡ l → d ≡ past c (entry_at index c)
  past_by v d e zero none = absurd (entry-not none v d e)
  past_by v d e (suc l) some =
      let same : ◌≡◌ {A = Result Step Fault} (Ok (Step.Entry v d)) (Ok (Step.Entry (entry_at index c) (past c (entry_at index c)))) = sym e ∙ good-take (λ (z : c.left ≡ 0). omega arith) in
      cc

  pub entry_past : (v : Entry) (d : Cursor) → step_at index x c ≡ Ok (Step.Entry v d) → d ≡ past c (entry_at index c)
  entry_past v d e = past_by v d e c.left refl

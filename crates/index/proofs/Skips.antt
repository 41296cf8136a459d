-- All entries left of a key at once.
--   skip-none, skip-one, past-sound   where the last block ends, by the first entry
--   entries-whole                     entries that are read are those that the bytes state, and the last block ends within x
--   OnEntries, on-entries             what is left before the entries of a key, by what is left after them
--   skip-refused                      the same where an entry is refused
use Prim.Native.Nat.{ℕ, zero, suc, ◌+◌, ◌-◌, ◌*◌, ◌≤◌}
use mathlib.Core.Path.{◌≡◌, refl, ap, sym, subst, ◌∙◌}
use mathlib.Core.List.{List, ◌∷◌}
use mathlib.Core.Option.{Option, some}
use native.Mathlib.Nat.{add_assoc, add-zero}
use native.Mathlib.Omega.{arith}
use lib.ListN.{length, drop}
use lib.Seq.{drop-drop}
use lib.IntN.{ℤ}
use Rattle.format.specs.declared.Kind.{Kind}
use Rattle.format.specs.declared.Entry.{Entry}
use Rattle.std.specs.Prelude.{Result, Ok, Err}
use Rattle.format.specs.declared.Fault.{Fault}
use Rattle.format.specs.declared.ImagePlace.{ImagePlace}
use Rattle.format.specs.Refusals.{Outcome, ok, refused, ◌>>=◌}
use Rattle.format.specs.Index.{block_span, entry_from, check_entry, read_entries, read_keys}
use Rattle.index.specs.declared.Cursor.{Cursor}
use Rattle.index.specs.Cursors.{key_at, max_of, entry_check_of, past, entry_at, entries_left, skipped, skipped_at, past_entries, entries_from, entries_at, rest_from, rest, Sound}
use Rattle.index.proofs.Fits.{EntryFits, entry-fits}
use Rattle.index.proofs.Faults.{refusal_of}
use Rattle.index.proofs.Rests.{bind_assoc, keys_only, pair}
use Rattle.index.proofs.Walks.{Remaining, taken-with}
use Rattle.index.proofs.Sounds.{StepSound, take-sound}
use Rattle.index.proofs.Within.{IfRead}

-- ---- one entry, before the others

-- where the last block ends, from the check of the first entry, which leads to d
abbrev pub skip_by : List ℕ → (x : ℕ) → (d : Cursor) → Result (Unit {0}) Fault → Result ImagePlace Fault
skip_by index x d (Ok u) = skipped_at index x d
skip_by index x d (Err fault) = Err fault

module _ (index : List ℕ) (x : ℕ) (c : Cursor) where
  pub skip-none : c.left ≡ 0 → skipped_at index x c ≡ Ok c.ended
  unfolding skipped_at read_entries
  skip-none e = rw e

  -- the entries after the first
  abbrev others : Outcome (List Entry × ℕ)
  others = entries_left index x (past c (entry_at index c))

  abbrev check : Outcome (Unit {0})
  check = check_entry (block_span c.ended.0 x) (x + c.at.0) (max_of c.before) (entry_at index c)

  entries-step : (k : ℕ) → c.left ≡ suc k → entries_left index x c ≡ (check >>= λ _. others >>= λ p. pair (entry_at index c ∷ p.0) p.1)
  unfolding read_entries
  entries-step k more =
      let less : c.left - 1 ≡ k = omega arith in
      rw (less, more, ← add_assoc x c.at.0 28, ← drop-drop 28 c.at.0 index)

  one-by : (a : Outcome (Unit {0})) (r : Outcome (List Entry × ℕ)) → entries_left index x (past c (entry_at index c)) ≡ r
      → skipped (a >>= λ _. r >>= λ p. pair (entry_at index c ∷ p.0) p.1) ≡ skip_by index x (past c (entry_at index c)) (entry_check_of a)
  unfolding skipped_at
  one-by (ok u) (ok p) e = rw e
  one-by (ok u) (refused r place) e = rw e
  one-by (refused r place) q e = refl

  step_by_lem : (l : ℕ) → c.left ≡ l → 1 ≤ l → skipped_at index x c ≡ skip_by index x (past c (entry_at index c)) (entry_check_of check)
  unfolding skipped_at
  step_by_lem zero e h = absurd (omega arith)
  step_by_lem (suc k) e h = ap skipped (entries-step k e) ∙ one-by check others refl

  pub skip-one : 1 ≤ c.left → (e : Entry) (k : Result (Unit {0}) Fault) → e ≡ entry_at index c → k ≡ entry_check_of (check_entry (block_span c.ended.0 x) (x + c.at.0) (max_of c.before) e)
      → skipped_at index x c ≡ skip_by index x (past c e) k
  skip-one h e k p q = rw (q, p) (step_by_lem c.left refl h)

  pub past-sound : Sound index x c → 1 ≤ c.left → (e : Entry) → e ≡ entry_at index c
      → Ok tt ≡ entry_check_of (check_entry (block_span c.ended.0 x) (x + c.at.0) (max_of c.before) e) → Sound index x (past c e)
  past-sound s h e p q = (subst (StepSound index x c) (taken-with index x c e (Ok tt) p q) (take-sound index x c s h)).0

-- ---- entries that are read

-- the entries are those that the bytes state, and the last block ends within x
abbrev Whole : (x : ℕ) → List Entry → List Entry × ℕ → Type 0
Whole x es p = (p.0 ≡ es) × (p.1 ≤ x)

whole_by : (x ended : ℕ) (e : Entry) (es : List Entry) (a : Outcome (Unit {0})) (r : Outcome (List Entry × ℕ)) → EntryFits x ended e a
    → (ended + e.size ≤ x → IfRead (Whole x es) r) → IfRead (Whole x (e ∷ es)) (a >>= λ _. r >>= λ p. pair (e ∷ p.0) p.1)
whole_by x ended e es (ok u) (ok p) f g =
    let h = g (omega (arith, f.within, f.at-end)) in
    (ap (λ (l : List Entry). e ∷ l) h.0, h.1)
whole_by x ended e es (ok u) (refused r place) f g = tt
whole_by x ended e es (refused r place) q f g = tt

entries-whole : (kind : Kind) (x k at ended : ℕ) (before : Option ℤ) (bs : List ℕ) → ended ≤ x
    → IfRead (Whole x (entries_from kind k bs)) (read_entries kind k (block_span ended x) at before bs)
unfolding read_entries entries_from
entries-whole kind x zero at ended before bs h = (refl, h)
entries-whole kind x (suc k) at ended before bs h =
    let e = entry_from kind bs in
    whole_by x ended e (entries_from kind k (drop 28 bs)) (check_entry (block_span ended x) at before e)
    (read_entries kind k (block_span (ended + e.size) x) (at + 28) (some e.max) (drop 28 bs))
    (entry-fits x at ended before e)
    (entries-whole kind x k (at + 28) (ended + e.size) (some e.max) (drop 28 bs))

-- ---- what is left before the entries of a key, by what is left after them

-- what was left before the entries of a key
abbrev pub before_entries : List Entry → Remaining → Remaining
before_entries es later = later >>= λ r. pair es r.1

-- d is past the entries of the key of c
pub record OnEntries (index : List ℕ) (x : ℕ) (c d : Cursor) : Type 0 where
  pub sound : Sound index x d
  pub was : rest index x c ≡ before_entries (entries_at index c) (rest index x d)

module _ (index : List ℕ) (x : ℕ) (c : Cursor) where
  rest-by : (es : List Entry) (last : ImagePlace) → entries_left index x c ≡ ok (es, last.0)
      → rest index x c ≡ before_entries es (rest index x (past_entries c last))
  unfolding rest_from read_entries
  rest-by es last e =
      let k = c.left * 28 in
      rw (e, drop-drop k c.at.0 index, add_assoc x c.at.0 k, add-zero (x + (c.at.0 + k)))
      (sym (bind_assoc (read_keys (length (drop (c.at.0 + k) index)) (block_span last.0 x) (x + (c.at.0 + k)) (key_at index c.key) (drop (c.at.0 + k) index))
      keys_only (λ r. pair es r.1)))

  on-by : Sound index x c → (last : ImagePlace) (r : Outcome (List Entry × ℕ)) → entries_left index x c ≡ r → IfRead (Whole x (entries_at index c)) r
      → skipped r ≡ Ok last → OnEntries index x c (past_entries c last)
  on-by s last (ok p) e w q =
      let same : p.1 ≡ last.0 = cc in
      record {
        sound = record { image = s.image; entries = omega (arith, s.entries); key = s.key; ended = omega (arith, w.1) };
        was =
            rest-by p.0 last (e ∙ ap (λ (n : ℕ). pair p.0 n) same)
            ∙ ap (λ (es : List Entry). before_entries es (rest index x (past_entries c last))) w.0;
      }
  on-by s last (refused r place) e w q = absurd (let z : ◌≡◌ {A = ℕ} 0 1 = cc in omega arith)

  pub on-entries : Sound index x c → (last : ImagePlace) → skipped_at index x c ≡ Ok last → OnEntries index x c (past_entries c last)
  unfolding skipped_at
  on-entries s last q =
      on-by s last (entries_left index x c) refl
      (entries-whole c.kind x c.left (x + c.at.0) c.ended.0 (max_of c.before) (drop c.at.0 index) s.ended) q

  pub skip-refused : (fault : Fault) → skipped_at index x c ≡ Err fault → rest index x c ≡ refused fault.refusal fault.place.0
  unfolding skipped_at rest_from
  skip-refused fault q = rw (refusal_of _ (entries_left index x c) fault q)

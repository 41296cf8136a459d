-- `Index::skip_entries` meets its contract: the entries left from where it stands say the same as all.
use Rattle.std.proofs.Common.{◌≡◌, ℕ, ◌-◌, Option, ℤ}
use Rattle.format.specs.declared.ImagePlace.{ImagePlace}
use Rattle.format.specs.declared.IndexPlace.{IndexPlace}
use Rattle.index.specs.declared.Cursor.{Cursor}
use Rattle.index.specs.Cursors.{skipped_at, Sound}
use Rattle.index.proofs.Index.skip_entries.Given as goal

-- where the loop stands, in the key of c
abbrev pub standing : Cursor → IndexPlace → ImagePlace → Option ℤ → (left : ℕ) → Cursor
standing c at ended before left = record {
  at = at;
  ended = ended;
  key = c.key;
  kind = c.kind;
  left = left;
  before = before;
}

abbrev pub invariant-loop : goal.invariant-loop
invariant-loop l =
    let here = standing l.fn.c l.at l.ended l.before (l.end - l.counter) in
    Sound l.self.bytes.now l.self.start.0 here × (skipped_at l.self.bytes.now l.self.start.0 here ≡ skipped_at l.self.bytes.now l.self.start.0 l.fn.c)

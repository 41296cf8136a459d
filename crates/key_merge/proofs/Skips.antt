-- An entry of the index is passed, without its block.
--   entry-skipped   the feed past it
use Prim.Native.Nat.{ℕ, zero-le}
use mathlib.Core.Path.{◌≡◌, ap}
use mathlib.Core.List.{List}
use native.Mathlib.Omega.{arith}
use Rattle.std.specs.Prelude.{Ok}
use Rattle.format.specs.declared.Entry.{Entry}
use Rattle.index.specs.declared.Cursor.{Cursor}
use Rattle.index.specs.declared.Step.{Step}
use Rattle.index.specs.Cursors.{step_at}
use Rattle.index.proofs.Taken.{entry_past}
use Rattle.feed.specs.declared.Feed.{Feed}
use Rattle.index.specs.Frames.{index_part}
use Rattle.feed.specs.Feeds.{entries_left, keys_left, Stands, at_cursor}
use Rattle.feed.proofs.Blocks.{entry-passed}
use Rattle.key_merge.specs.Turns.{EntrySkipped}

module _ (image : List ℕ) (f : Feed) (s : Stands image f) (more : f.cursor.left ≡ 0 → ⊥) where
  abbrev index : List ℕ
  index = index_part image f.start.0

  abbrev x : ℕ
  x = f.start.0

  pub entry-skipped : (v : Entry) (d : Cursor) → step_at index x f.cursor ≡ Ok (Step.Entry v d) → EntrySkipped image f (at_cursor f.start d)
  entry-skipped v d e =
      let go = entry-passed image f s v d e 0 zero-le in
      let one = ap (λ (c : Cursor). c.left) (entry_past index x f.cursor s.sound (entries_left image f) (keys_left image f) s.index v d e) in
      record { stands = go.stands; held = zero-le; series = go.series; less = omega (arith, one) }

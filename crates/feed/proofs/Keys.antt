-- The first feed, and the next key: the step of the cursor in the index.
--   begun, frame-not-refused        the first feed
--   key-part                        the open key as a part of the image
--   key-opened, no_key, key-not-entry, not-refused     the next key
use Rattle.std.specs.Prelude.{Ok, Err}
use Prim.Native.Nat.{ℕ, ◌+◌, ◌-◌, ◌≤◌, zero-le}
use mathlib.Core.Path.{◌≡◌, refl, ap, sym, subst, ◌∙◌}
use mathlib.Core.Bool.{true}
use mathlib.Core.List.{List, []}
use native.Mathlib.Omega.{arith}
use lib.ListN.{length, take, drop, length-take, length-drop}
use lib.Seq.{drop-drop, take-take}
use Rattle.format.specs.declared.Entry.{Entry}
use Rattle.format.specs.declared.ImagePlace.{ImagePlace}
use Rattle.format.specs.Refusals.{Outcome, ok, ◌>>=◌, is_ok}
use Rattle.format.specs.Index.{IndexKey}
use Rattle.format.specs.File.{read_blocks, read_series, read_file}
use Rattle.index.specs.declared.Cursor.{Cursor}
use Rattle.index.specs.declared.Step.{Step}
use Rattle.format.specs.declared.Fault.{Fault}
use Rattle.index.specs.Frames.{frame_at, index_part}
use Rattle.index.specs.Cursors.{step_at, first_cursor}
use Rattle.index.proofs.Frames.{frame-start, frame_refused}
use Rattle.index.proofs.Rests.{keys_only}
use Rattle.index.proofs.Walks.{key_with}
use Rattle.index.proofs.Steps.{on-key, image-sound, index-rest, good-key, good-end, never-refused}
use Rattle.index.proofs.Taken.{entry-not}
use Rattle.feed.specs.declared.Feed.{Feed}
use Rattle.format.proofs.Parts.{drop-take}
use Rattle.format.proofs.Results.{refused-not, ok_of}
use Rattle.feed.specs.Feeds.{key_of, entries_left, keys_left, series_left, at_cursor, Stands, Done, Begun, KeyOpened}
use Rattle.feed.proofs.Readings.{series-read, no-series, file-index}
use Rattle.feed.proofs.Standing.{placed}

-- ---- the first feed

module _ (image : List ℕ) (good : is_ok (read_file image) ≡ true) where
  none_read : read_blocks image [] ≡ ok []
  unfolding read_blocks
  none_read = refl

  pub begun : (p : ImagePlace) → frame_at image ≡ Ok p → Begun image (at_cursor p first_cursor)
  begun p e =
      let s = frame-start image p e in
      let m = ok_of (read_file image) good in
      let read = file-index image m.0 m.1 in
      let left = placed image (at_cursor p first_cursor) [] read.0 [] m.0 (record {
        frame = s.good;
        start = s.start;
        sound = image-sound image p s;
        index = index-rest image p s ∙ ap (λ (r : Outcome (List IndexKey)). r >>= keys_only) read.1;
        blocks = none_read;
        series = read.2;
        next-most = zero-le;
        count_most = zero-le;
      }) in
      record { stands = left.stands; done = record { held = zero-le; left = refl }; meaning = m.1 ∙ ap ok (sym left.series) }

  pub frame-not-refused : (fault : Fault) → frame_at image ≡ Err fault → ⊥
  frame-not-refused fault e =
      let m = ok_of (read_file image) good in
      let read = file-index image m.0 m.1 in
      refused-not (sym (frame_refused image fault e) ∙ read.1)

-- ---- the open key

pub key-part : (image : List ℕ) (f : Feed) → Stands image f
    → take (f.start.0 + f.cursor.key.at.0 + f.cursor.key.len - (f.start.0 + f.cursor.key.at.0)) (drop (f.start.0 + f.cursor.key.at.0) image) ≡ key_of image f
unfolding key_of
key-part image f s =
    let x = f.start.0 in
    let at = f.cursor.key.at.0 in
    let n = f.cursor.key.len in
    let size : x + at + n - (x + at) ≡ n = omega arith in
    let inside : at + n ≤ length (index_part image x) = s.sound.key in
    let room : n ≤ length image - 8 - x - at = omega (arith, simp (length-take, length-drop) at inside) in
    rw (size, drop-take at (length image - 8 - x) (drop x image), drop-drop at x image, take-take n (length image - 8 - x - at) (drop (x + at) image) room)

-- ---- the next key

module _ (image : List ℕ) (f : Feed) (s : Stands image f) where
  abbrev index : List ℕ
  index = index_part image f.start.0

  abbrev x : ℕ
  x = f.start.0

  abbrev es : List Entry
  es = entries_left image f

  abbrev ks : List IndexKey
  ks = keys_left image f

  pub key-opened : (d : Cursor) → step_at index x f.cursor ≡ Ok (Step.Key d) → KeyOpened image f (at_cursor f.start d)
  unfolding key_of
  key-opened d e =
      let g = good-key index x f.cursor s.sound es ks s.index d e in
      let on = on-key index x f.cursor s.sound d e in
      let k = key_with index d g.0.0 in
      let read = series-read image k g.0.1 (series_left image f) (subst (λ (l : List IndexKey). read_series image l ≡ ok (series_left image f)) g.3 s.series) in
      let left = placed image (at_cursor f.start d) g.0.0 g.0.1 read.points read.later (record {
        frame = s.frame;
        start = s.start;
        sound = on.sound;
        index = g.1;
        blocks = read.blocks;
        series = read.series;
        next-most = zero-le;
        count_most = zero-le;
      }) in
      record { stands = left.stands; held = zero-le; series = rw (left.blocks, left.series) read.meaning }

  pub no_key : step_at index x f.cursor ≡ Ok Step.End → series_left image f ≡ []
  no_key e =
      let g = good-end index x f.cursor s.sound es ks s.index e in
      no-series image (series_left image f) (subst (λ (l : List IndexKey). read_series image l ≡ ok (series_left image f)) g.1 s.series)

  pub key-not-entry : Done f → (v : Entry) (d : Cursor) → step_at index x f.cursor ≡ Ok (Step.Entry v d) → ⊥
  key-not-entry done v d e = entry-not index x f.cursor s.sound es ks s.index done.left v d e

  pub not-refused : (fault : Fault) → step_at index x f.cursor ≡ Err fault → ⊥
  not-refused fault e = never-refused index x f.cursor s.sound es ks s.index fault e

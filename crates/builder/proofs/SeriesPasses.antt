-- The steps of a pass from key to key: what each asks holds, and after it what the next asks.
--   good-key, good-points, points-ascend    a good series
--   opened-near, measured-filling, begin-room, begin-filling   a key is opened
--   series-same, series-room                a key is closed, and series are to come
--   past_first, past-series                 a place is past every image
--   series-none                             no series is left
use Prim.Native.Nat.{ℕ, ◌+◌, ◌≤◌}
use mathlib.Core.Path.{◌≡◌, refl, subst, ◌∙◌}
use mathlib.Core.Bool.{Bool, true, not, ◌&&◌}
use mathlib.Core.List.{List, [], ◌∷◌, flat_map}
use native.Mathlib.Nat.{add-zero}
use native.Mathlib.Omega.{arith}
use lib.Dec.{leb, ltb}
use lib.ListN.{length}
use borrow.Author.Tests.{leb-true}
use Rattle.format.specs.declared.Columns.{Columns}
use Rattle.format.specs.declared.Kind.{Kind}
use Rattle.format.specs.Limits.{key_most, writer_block_most, image_most}
use Rattle.format.specs.Choice.{every, ascends, is_empty}
use Rattle.format.specs.Meaning.{Series, Meaning, point_before}
use Rattle.format.specs.WellFormed.{good_point, good_series}
use Rattle.format.specs.Writer.{writer_index}
use Rattle.format.proofs.Splices.{splice-length, splice-nothing}
use Rattle.builder.specs.declared.Ends.{Ends}
use Rattle.builder.specs.declared.Mode.{Mode}
use Rattle.builder.specs.declared.Places.{Places}
use Rattle.builder.specs.Modes.{lays, start_of, lay_index}
use Rattle.numbers.specs.Laying.{Room}
use Rattle.builder.specs.Steps.{Closed, key_end, series_end, head_bytes, begin_places}
use Rattle.builder.proofs.Futures.{closed_same}
use Rattle.builder.proofs.Series.{begin-future, blocks-length, index-length, head-length, count-length}
use Rattle.builder.specs.Passes.{Near, KeyRoom, KeyOpen, Filling, SeriesRoom, Past}
use Rattle.format.proofs.Tests.{both_left, both_right, never}

-- ---- a good series

module _ (s : Series) (good : good_series s ≡ true) where
  abbrev sized : Bool
  sized = leb 1 (length s.key) && leb (length s.key) key_most

  abbrev bytes : Bool
  bytes = every (λ b. ltb b 256) s.key

  abbrev some : Bool
  some = not (is_empty s.points)

  abbrev fitting : Bool
  fitting = every (good_point s.kind) s.points

  with-points : sized && bytes && some && fitting ≡ true
  unfolding good_series
  with-points = both_left (sized && bytes && some && fitting) (ascends point_before s.points) good

  pub good-key : length s.key ≤ key_most
  good-key =
      leb-true (length s.key) key_most
      (both_right (leb 1 (length s.key)) (leb (length s.key) key_most)
      (both_left sized bytes (both_left (sized && bytes) some (both_left (sized && bytes && some) fitting with-points))))

  pub good-points : every (good_point s.kind) s.points ≡ true
  good-points = both_right (sized && bytes && some) fitting with-points

  pub points-ascend : ascends point_before s.points ≡ true
  unfolding good_series
  points-ascend = both_right (sized && bytes && some && fitting) (ascends point_before s.points) good

-- ---- a place is past every image

pub past_first : (mode : Mode) (ss : Meaning) (e : Ends) (out : List ℕ) → (e.block.0 ≤ image_most → e.entry.0 ≤ image_most → ⊥) → Past (series_end mode ss e out)
unfolding series_end
past_first mode ss e out h = record { past = λ x y. h (omega (arith, x)) (omega (arith, y)) }

-- ---- a key is opened at the places p

-- what its key alone says
module _ (key : List ℕ) (p : Places) (short : length key ≤ key_most) (block_in : p.ends.block.0 ≤ image_most) (entry_in : p.ends.entry.0 ≤ image_most) where
  pub opened-near : Near (begin_places key p).ends
  unfolding begin_places
  opened-near = record { block_near = omega arith; entry-near = omega arith }

  measured-open : (kind : Kind) (out : List ℕ) → KeyOpen Mode.Measure kind [] [] (begin_places key p) out
  unfolding begin_places
  measured-open kind out = record {
    fill = refl;
    few = omega arith;
    good = refl;
    ascend = refl;
    counted = omega arith;
    places-fit = record { block-most = omega arith; entry-most = omega arith; blocks-most = omega arith };
    room = λ l. never l refl;
  }

  -- where nothing is laid, no point to come is known
  pub measured-filling : (kind : Kind) (fill : Columns writer_block_most) (out : List ℕ)
      → Filling [] (record { mode = Mode.Measure; kind = kind; places = begin_places key p; fill = fill }) out
  unfolding begin_places
  measured-filling kind fill out = measured-open kind out

module _ (mode : Mode) (s : Series) (ss : Meaning) (p : Places) (out : List ℕ) (room : lays mode ≡ true → SeriesRoom (start_of mode) (s ∷ ss) p.ends out) where
  abbrev opened : List ℕ
  opened = lay_index mode p.ends.entry (head_bytes s.key s.kind) out

  abbrev closed : Closed
  closed = key_end mode s.kind [] s.points (begin_places s.key p) opened

  pub begin-room : Room (lays mode) (start_of mode + p.ends.entry.0 + length s.key + 5) out
  begin-room = go mode room
    where
      go : (m : Mode) → (lays m ≡ true → SeriesRoom (start_of m) (s ∷ ss) p.ends out) → Room (lays m) (start_of m + p.ends.entry.0 + length s.key + 5) out
      go (Mode.Lay start) r = omega (arith, (r refl).index, index-length s ss p, head-length s ss p, count-length s ss p)
      go Mode.Measure r = tt

  opened-length : length opened ≡ length out
  opened-length = go mode begin-room
    where
      go : (m : Mode) → Room (lays m) (start_of m + p.ends.entry.0 + length s.key + 5) out → length (lay_index m p.ends.entry (head_bytes s.key s.kind) out) ≡ length out
      go (Mode.Lay start) inside = splice-length (start.0 + p.ends.entry.0) (head_bytes s.key s.kind) out (omega (arith, inside, head-length s ss p))
      go Mode.Measure inside = refl

  opened-room : lays mode ≡ true → KeyRoom (start_of mode) s.kind [] s.points (begin_places s.key p) opened
  unfolding begin_places
  opened-room l =
      let n = index-length s ss p in
      let h = head-length s ss p in
      let c = count-length s ss p in
      record {
        fits = record {
          blocks = omega (arith, (room l).blocks, blocks-length s ss p);
          count = omega arith;
          entries = omega (arith, (room l).index, n, h, c, opened-length);
        };
        most = omega (arith, (room l).most, n, h, c);
      }

  module _ (good : good_series s ≡ true) (block_in : p.ends.block.0 ≤ image_most) (entry_in : p.ends.entry.0 ≤ image_most) where
    opened-open : KeyOpen mode s.kind [] s.points (begin_places s.key p) opened
    unfolding begin_places
    opened-open = record {
      fill = refl;
      few = omega arith;
      good = good-points s good;
      ascend = points-ascend s good;
      counted = omega arith;
      places-fit = record { block-most = omega arith; entry-most = omega (arith, good-key s good); blocks-most = omega arith };
      room = opened-room;
    }

    pub begin-filling : (fill : Columns writer_block_most) (out' : List ℕ) → out' ≡ opened
        → Filling s.points (record { mode = mode; kind = s.kind; places = begin_places s.key p; fill = fill }) out'
    unfolding begin_places
    begin-filling fill out' e = rw e opened-open

  -- ---- it is closed

  pub series-same : series_end mode ss closed.ends closed.bytes ≡ series_end mode (s ∷ ss) p.ends out
  series-same = begin-future s ss p mode out (λ l. ((room l).blocks, (room l).index))

  pub series-room : (bytes : List ℕ) → length bytes ≡ length out → lays mode ≡ true → SeriesRoom (start_of mode) ss closed.ends bytes
  unfolding key_end begin_places
  series-room bytes same l =
      let n = index-length s ss p in
      let h = head-length s ss p in
      let c = count-length s ss p in
      record {
        blocks = omega (arith, (room l).blocks, blocks-length s ss p);
        index = omega (arith, (room l).index, n, h, c, same);
        most = omega (arith, (room l).most, n, h, c);
      }

  pub past-series : Past closed → Past (series_end mode (s ∷ ss) p.ends out)
  past-series h = subst Past series-same (past_first mode ss closed.ends closed.bytes h.past)

-- ---- no series is left

pub series-none : (mode : Mode) (e : Ends) (out : List ℕ) → series_end mode [] e out ≡ record { ends = e; bytes = out }
unfolding series_end writer_index flat_map
series-none (Mode.Lay start) e out = closed_same (add-zero e.block.0) (add-zero e.entry.0) (splice-nothing (start.0 + e.entry.0) _ ∙ splice-nothing e.block.0 out)
series-none Mode.Measure e out = closed_same (add-zero e.block.0) (add-zero e.entry.0) refl

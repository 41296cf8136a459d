-- A series of a merge is added: the series after it come to what all came to at first.
--   end-blocks     a closed key has no more blocks than bytes in the index
--   begin-asks     its key can be opened
--   points-ready   its points can be added
--   series-added, series-past   what adding it answers, by what adding its points answers
use Prim.Native.Nat.{ℕ, ◌+◌, ◌≤◌}
use mathlib.Core.Path.{◌≡◌, ap, ap₂, sym, subst, ◌∙◌}
use mathlib.Core.Bool.{true}
use mathlib.Core.List.{List, [], ◌∷◌}
use native.Mathlib.Omega.{arith}
use lib.ListN.{length}
use Rattle.format.specs.declared.Kind.{Kind}
use Rattle.format.specs.Limits.{key_most}
use Rattle.format.specs.Meaning.{Point, Series, Meaning}
use Rattle.format.specs.Merge.{merge_points}
use Rattle.builder.specs.declared.Builder.{Builder}
use Rattle.builder.specs.declared.Mode.{Mode}
use Rattle.builder.specs.declared.Places.{Places}
use Rattle.builder.specs.Modes.{lays, start_of, lay_index}
use Rattle.numbers.specs.Laying.{Room}
use Rattle.builder.specs.Steps.{PlacesFit, Closed, key_end, closed_key, series_end, head_bytes, begin_places, end_places, flush_places}
use Rattle.builder.specs.Passes.{Filling, SeriesRoom, Past}
use Rattle.builder.proofs.SeriesPasses.{good-key, begin-room, begin-filling, series-same, series-room, past-series}
use Rattle.feed.proofs.Cells.{points-blocks}
use Rattle.key_merge.specs.declared.Images.{Images}
use Rattle.key_merge.specs.declared.Turn.{Turn}
use Rattle.key_merge.specs.Turns.{KeyDone, next_series, later}
use Rattle.point_merge.specs.declared.Sides.{Sides}
use Rattle.point_merge.specs.Adding.{merged_points, PointsReady}
use Rattle.merge.specs.Adding.{SeriesReady, open_closed, OneAdded}

-- a closed key has no more blocks than bytes in the index
pub end-blocks : (kind : Kind) (f : List Point) (p : Places) → p.blocks ≤ p.ends.entry.0 → (end_places kind f p).blocks ≤ (end_places kind f p).ends.entry.0
unfolding end_places flush_places
end-blocks kind [] p h = h
end-blocks kind (q ∷ f) p h = omega arith

module _ {i : Images} {t : Turn} {b : Builder} {out : List ℕ} (h : SeriesReady i t b out) where
  abbrev one : Series
  one = next_series i t

  abbrev rest : Meaning
  rest = later i t.feeds

  pub begin-asks : (length one.key ≤ key_most) × PlacesFit b.places × Room (lays b.mode) (start_of b.mode + b.places.ends.entry.0 + length one.key + 5) out
  begin-asks = (
    good-key one h.good,
    record { block-most = omega (arith, h.block_in); entry-most = omega (arith, h.entry_in); blocks-most = omega (arith, h.blocks_in, h.entry_in) },
    begin-room b.mode one rest b.places out h.room,
  )

  -- the sides stand at the key, which is opened
  module _ (s : Sides) (mid : List ℕ) (laid : mid ≡ lay_index b.mode b.places.ends.entry (head_bytes one.key one.kind) out) where
    abbrev pub sides : Sides
    sides = record { older = record { feed = t.feeds.older; columns = s.older.columns }; newer = record { feed = t.feeds.newer; columns = s.newer.columns } }

    abbrev pub opened : Builder
    opened = record { mode = b.mode; kind = one.kind; places = begin_places one.key b.places; fill = b.fill }

    points-are : merged_points i sides ≡ one.points
    points-are =
        ap₂ merge_points (points-blocks t.feeds.older s.older.columns.times s.older.columns.values i.older.now h.older-held)
        (points-blocks t.feeds.newer s.newer.columns.times s.newer.columns.values i.newer.now h.newer-held)

    pub points-ready : PointsReady i sides opened mid
    points-ready = record {
      older-stands = h.older-stands;
      newer-stands = h.newer-stands;
      filling =
          subst (λ (ps : List Point). Filling ps opened mid) (sym points-are)
          (begin-filling b.mode one rest b.places out h.room h.good h.block_in h.entry_in b.fill mid laid);
    }

    -- what the key comes to
    abbrev pub key_closed : Closed
    key_closed = closed_key (merged_points i sides) opened mid

    whole_is : key_closed ≡ key_end b.mode one.kind [] one.points (begin_places one.key b.places) (lay_index b.mode b.places.ends.entry (head_bytes one.key one.kind) out)
    unfolding begin_places
    whole_is = ap₂ (λ (ps : List Point) (l : List ℕ). closed_key ps opened l) points-are laid

    pub series-past : Past key_closed → Past (open_closed i t b out)
    series-past p = past-series b.mode one rest b.places out h.room (subst Past whole_is p)

    pub series-added : (s' : Sides) (b' : Builder) (out' : List ℕ) → KeyDone i.older.now t.feeds.older s'.older.feed → KeyDone i.newer.now t.feeds.newer s'.newer.feed
        → b'.mode ≡ b.mode → b'.places.blocks ≤ b'.places.ends.entry.0
        → ◌≡◌ {A = Closed} (record { ends = b'.places.ends; bytes = out' }) key_closed → length out' ≡ length out
        → OneAdded i t (open_closed i t b out) s' b' out'
    series-added s' b' out' older-done newer-done mode blocks_in closed same_out =
        let is = closed ∙ whole_is in
        record {
          older-done = older-done;
          newer-done = newer-done;
          blocks_in = blocks_in;
          room =
              subst (λ (m : Mode). lays m ≡ true → SeriesRoom (start_of m) rest b'.places.ends out') (sym mode)
              (λ l. rw (ap (λ (c : Closed). c.ends) is) (series-room b.mode one rest b.places out h.room out' same_out l));
          same =
              ap (λ (m : Mode). series_end m rest b'.places.ends out') mode
              ∙ ap (λ (c : Closed). series_end b.mode rest c.ends c.bytes) is
              ∙ series-same b.mode one rest b.places out h.room;
        }

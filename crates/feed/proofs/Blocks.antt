-- The next block of the open key: the step of the cursor takes its entry, and the block is decoded.
--   no_block       with no entry left, no point is left
--   block-step     with one left, the step takes it
--   block-only     and no step is another
--   block-known    the block can be decoded
--   entry-left, entry_read   the entries after it, and its points and those of the blocks after it
--   entry-passed   the feed past the entry, with points of its block decoded or not
--   block-opened   the feed at the decoded block
use Rattle.std.specs.Prelude.{Result, Ok, Err}
use Prim.Native.Nat.{ℕ, ◌≤◌, zero-le}
use mathlib.Core.Path.{◌≡◌, refl, ap, sym, subst, ◌∙◌}
use mathlib.Core.Bool.{Bool, true, false}
use mathlib.Core.List.{List, [], ◌∷◌}
use native.Mathlib.Omega.{arith}
use lib.IntN.{ℤ}
use lib.ListN.{length}
use Rattle.format.specs.declared.Entry.{Entry}
use Rattle.format.specs.declared.Fault.{Fault}
use Rattle.format.specs.Limits.{read_block_most}
use Rattle.format.specs.Refusals.{ok, is_ok}
use Rattle.format.specs.Block.{read_block}
use Rattle.format.specs.Index.{IndexKey}
use Rattle.format.specs.File.{block_of, read_blocks}
use Rattle.index.specs.declared.Cursor.{Cursor}
use Rattle.index.specs.declared.Step.{Step}
use Rattle.index.specs.Cursors.{key_at, step_at, entry_at, past, rest}
use Rattle.index.proofs.Steps.{on-entry, good-entry}
use Rattle.index.proofs.Taken.{none_left, good-take, entry_past}
use Rattle.block.proofs.Answers.{PointsAre}
use Rattle.block.proofs.Bodies.{block-few}
use Rattle.format.proofs.Cells.{cells-first, points-back}
use Rattle.feed.specs.declared.Feed.{Feed}
use Rattle.index.specs.Frames.{index_part, InImage}
use Rattle.index.proofs.Frames.{in_image}
use Rattle.feed.specs.Feeds.{key_of, entries_left, keys_left, blocks_left, series_left, Stands, Kept, BlockOpened}
use Rattle.feed.proofs.Readings.{BlocksRead, blocks-read, no_blocks}
use Rattle.feed.proofs.Standing.{Left, placed, starts}

-- whether a step takes an entry
abbrev takes : Result Step Fault → Bool
takes (Ok (Step.Key d)) = false
takes (Ok (Step.Entry v d)) = true
takes (Ok Step.End) = false
takes (Err fault) = false

module _ (image : List ℕ) (f : Feed) (s : Stands image f) where
  abbrev index : List ℕ
  index = index_part image f.start.0

  abbrev x : ℕ
  x = f.start.0

  abbrev es : List Entry
  es = entries_left image f

  abbrev ks : List IndexKey
  ks = keys_left image f

  pub no_block : f.cursor.left ≡ 0 → blocks_left image f ≡ []
  no_block e =
      let none = none_left index x f.cursor s.sound es ks s.index e in
      no_blocks image (blocks_left image f) (subst (λ (l : List Entry). read_blocks image l ≡ ok (blocks_left image f)) none s.blocks)

  pub block-step : (f.cursor.left ≡ 0 → ⊥) → step_at index x f.cursor ≡ Ok (Step.Entry (entry_at index f.cursor) (past f.cursor (entry_at index f.cursor)))
  block-step more = good-take index x f.cursor s.sound es ks s.index more

  -- with one left, there is no other step
  pub block-only : {X : Type 0} → (f.cursor.left ≡ 0 → ⊥) → (t : Result Step Fault) → step_at index x f.cursor ≡ t → takes t ≡ false → X
  block-only more t e none =
      let some : takes t ≡ true = ap takes (sym e ∙ block-step more) in
      let z : true ≡ false = sym some ∙ none in
      cc

  module _ (v : Entry) (d : Cursor) (step : step_at index x f.cursor ≡ Ok (Step.Entry v d)) where
    -- the block can be decoded
    pub record BlockKnown : Type 0 where
      pub good : is_ok (read_block v (block_of image v)) ≡ true
      pub inside : InImage image v

    pub entry-left : (later : List Entry) × (rest index x d ≡ ok (later, ks)) × (es ≡ v ∷ later)
    entry-left = good-entry index x f.cursor s.sound es ks s.index v d step

    pub entry_read : BlocksRead image v entry-left.0 (blocks_left image f)
    entry_read =
        blocks-read image v entry-left.0 (blocks_left image f)
        (subst (λ (l : List Entry). read_blocks image l ≡ ok (blocks_left image f)) entry-left.2 s.blocks)

    pub block-known : BlockKnown
    block-known =
        let on = on-entry index x f.cursor s.sound v d step in
        let st = starts image f s in
        record { good = ap is_ok entry_read.block; inside = in_image image v st.framed on.block.least (omega (arith, on.block.within, st.start)) }

    -- the feed at the decoded block, of n points
    abbrev pub decoded : ℕ → Feed
    decoded n = record { start = f.start; cursor = d; next = 0; count = n }

    decoded-kept : (n : ℕ) → series_left image (decoded n) ≡ series_left image f → Kept image f (decoded n)
    unfolding key_of
    decoded-kept n same =
        let past = entry_past index x f.cursor s.sound es ks s.index v d step in
        record { key = ap (λ (c : Cursor). key_at index c.key) past; kind = ap (λ (c : Cursor). c.kind) past; series = same }

    pub entry-passed : (n : ℕ) → n ≤ read_block_most → Left image (decoded n) entry_read.later (series_left image f)
    entry-passed n most =
        placed image (decoded n) entry-left.0 ks entry_read.later (series_left image f) (record {
          frame = s.frame;
          start = s.start;
          sound = (on-entry index x f.cursor s.sound v d step).sound;
          index = entry-left.1;
          blocks = entry_read.blocks;
          series = s.series;
          next-most = zero-le;
          count_most = most;
        })

    pub block-opened : (old_times new_times : List ℤ) (old_values new_values : List ℕ) (n : ℕ) → PointsAre old_times new_times old_values new_values n (read_block v (block_of image v))
        → BlockOpened image f new_times new_values (decoded n)
    block-opened old_times new_times old_values new_values n are =
        let on = on-entry index x f.cursor s.sound v d step in
        let few = block-few v (block_of image v) are.points are.read in
        let many : length are.points ≡ n = are.count in
        let same : ok are.points ≡ ok entry_read.first = sym are.read ∙ entry_read.block in
        let first : are.points ≡ entry_read.first = cc in
        let cells = cells-first new_times new_values n ∙ points-back are.points n old_times new_times old_values new_values are.count are.times are.values in
        let left = entry-passed n (omega (arith, few.few)) in
        record {
          stands = left.stands;
          kept = decoded-kept n left.series;
          from = refl;
          some = omega (arith, few.some);
          further = on.further;
          points = rw (cells, left.blocks, first) entry_read.points;
        }

-- Points of blocks, merged into the fill: the fill, with what is to come after it, stays the same.
--   rest, merged        the points of a block from a place on, and those of two blocks merged, with others after each
--   in_cells            the first points of the fill
--   Room                a cell of the fill
--   step, NextLaid      the next point is laid, and which sides have passed it
--   Within              places of a block
--   Moved, RunMoved, BlocksMoved   points of two blocks went into the fill
--   BlockCopied         points of one block went into the fill
--   Grown               the one or the other
use Rattle.std.specs.Prelude.{ℕ, ◌+◌, ◌≤◌, ◌<◌, ◌≡◌, Bool, List, [], ◌++◌, pos, length, drop, get_or, set, if◌then◌else◌}
use Rattle.std.specs.Int.Signed.{lt_z}
use Rattle.format.specs.declared.Columns.{Columns}
use Rattle.format.specs.Limits.{writer_block_most}
use Rattle.format.specs.Meaning.{Point}
use Rattle.format.specs.Block.{points_from, filled}
use Rattle.format.specs.Merge.{merge_points}
use Rattle.block_merge.specs.declared.Merged.{Merged}
use Rattle.block_merge.specs.declared.side.Points.{Points}

-- the points of a block from place i on
abbrev pub rest : (i : ℕ) → Points → List Point
rest i p = points_from (drop i p.times.now) (drop i p.values.now)

-- the points of two blocks merged, with ps and qs after them
abbrev pub merged : (i : ℕ) → (older : Points) → (ps : List Point) → (j : ℕ) → (newer : Points) → (qs : List Point) → List Point
merged i older ps j newer qs = merge_points (rest i older ++ ps) (rest j newer ++ qs)

-- the cells of the fill
abbrev pub Fill : Type 0
Fill = Columns writer_block_most

-- the first n points of the fill
abbrev pub in_cells : (n : ℕ) → Fill → List Point
in_cells n fill = filled n fill.times fill.values

-- ---- the next point

-- 1 for a side that has passed it, 0 for one whose point waits
abbrev pub step : (waits : Bool) → ℕ
step waits = if waits then 0 else 1

-- the fill has a cell at n
pub record Room (n : ℕ) (fill : Fill) : Type 0 where
  pub in-times : n < length fill.times
  pub in-values : n < length fill.values

-- of the points at i and j the earlier is laid at n; of two at one time the newer's, and both are passed
pub record NextLaid (older : Points) (i : ℕ) (newer : Points) (j : ℕ) (fill : Fill) (n i' j' : ℕ) (fill' : Fill) : Type 0 where
  pub room : Room n fill
  pub older-next : i' ≡ i + step (lt_z (get_or newer.times.now j (pos 0)) (get_or older.times.now i (pos 0)))
  pub newer-next : j' ≡ j + step (lt_z (get_or older.times.now i (pos 0)) (get_or newer.times.now j (pos 0)))
  pub time : fill'.times ≡ set fill.times n (if lt_z (get_or older.times.now i (pos 0)) (get_or newer.times.now j (pos 0)) then get_or older.times.now i (pos 0) else get_or newer.times.now j (pos 0))
  pub value : fill'.values ≡ set fill.values n (if lt_z (get_or older.times.now i (pos 0)) (get_or newer.times.now j (pos 0)) then get_or older.values.now i 0 else get_or newer.values.now j 0)

-- ---- points of two blocks

-- the places from `from` on, `more` of them
abbrev pub Within : Points → (from more : ℕ) → Type 0
Within p from more = from + more ≤ length p.times.now

-- from `at` on, points of two blocks went into the fill
pub record Moved (older newer : Points) (at : Merged) (fill : Fill) (to : Merged) (fill' : Fill) : Type 0 where
  pub older-most : to.older ≤ length older.times.now
  pub newer-most : to.newer ≤ length newer.times.now
  pub count : length (in_cells at.filled fill) ≡ at.filled → length (in_cells to.filled fill') ≡ to.filled
  pub same : (ps qs : List Point)
      → in_cells to.filled fill' ++ merged to.older older ps to.newer newer qs
      ≡ in_cells at.filled fill ++ merged at.older older ps at.newer newer qs

-- the same, by `more` points
pub record RunMoved (older newer : Points) (at : Merged) (more : ℕ) (fill : Fill) (to : Merged) (fill' : Fill) : Type 0 where
  pub moved : Moved older newer at fill to fill'
  pub grown : to.filled ≡ at.filled + more

-- both blocks from their start, and n points in the fill
abbrev pub start : (n : ℕ) → Merged
start n = record { older = 0; newer = 0; filled = n }

-- the same, by one point or more where each block has a point and the fill has room
pub record BlocksMoved (older newer : Points) (n : ℕ) (fill : Fill) (to : Merged) (fill' : Fill) : Type 0 where
  pub moved : Moved older newer (start n) fill to fill'
  pub most : to.filled ≤ writer_block_most
  pub more : 0 < length older.times.now → 0 < length newer.times.now → n < writer_block_most → n < to.filled

-- ---- points of one block

-- the first points of a block went into the fill, as many as it has and the fill has room for
pub record BlockCopied (source : Points) (fill : Fill) (n more : ℕ) (fill' : Fill) : Type 0 where
  pub inside : more ≤ length source.times.now
  pub most : n + more ≤ writer_block_most
  pub some : 0 < length source.times.now → n < writer_block_most → 0 < more
  pub count : length (in_cells n fill) ≡ n → length (in_cells (n + more) fill') ≡ n + more
  pub same : in_cells (n + more) fill' ++ rest more source ≡ in_cells n fill ++ rest 0 source

-- ---- points of two blocks, or of one where the other side has none left at all

-- the fill has at least as many points as it had, and one more where a block has a point and the fill has room
pub record Grown (older newer : Points) (n : ℕ) (fill : Fill) (to : Merged) (fill' : Fill) : Type 0 where
  pub older-most : to.older ≤ length older.times.now
  pub newer-most : to.newer ≤ length newer.times.now
  pub most : to.filled ≤ writer_block_most
  pub more : 0 < length older.times.now + length newer.times.now → n < writer_block_most → n < to.filled
  pub count : length (in_cells n fill) ≡ n → length (in_cells to.filled fill') ≡ to.filled
  pub same : (ps qs : List Point) → (length older.times.now ≡ 0 → ps ≡ []) → (length newer.times.now ≡ 0 → qs ≡ [])
      → in_cells to.filled fill' ++ merged to.older older ps to.newer newer qs
      ≡ in_cells n fill ++ merged 0 older ps 0 newer qs

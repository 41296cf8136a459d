-- A side at its next point, or at the end of the open key.
--   settled_here, settled-block, settled-end   by what the side has
--   passed_to, passed                          a side with points of its decoded block passed
--   points-rest                                the points of the decoded block that are left
use Prim.Native.Nat.{ℕ, ◌+◌, ◌≤◌, ◌<◌}
use mathlib.Core.Path.{◌≡◌, refl, sym, ◌∙◌}
use mathlib.Core.List.{List}
use native.Mathlib.Omega.{arith}
use Rattle.format.specs.declared.Columns.{Columns}
use Rattle.format.specs.Limits.{read_block_most}
use Rattle.format.specs.Block.{cells}
use Rattle.format.proofs.Parts.{part-drop}
use Rattle.block_merge.specs.declared.side.Points.{Points}
use Rattle.block_merge.specs.Cells.{rest}
use Rattle.feed.specs.declared.Feed.{Feed}
use Rattle.feed.specs.Feeds.{blocks_left, series_left, Stands, BlockOpened}
use Rattle.feed.proofs.Standing.{Left, refilled}
use Rattle.feed.proofs.Cells.{points-blocks, block-after}
use Rattle.point_merge.specs.declared.Side.{Side}
use Rattle.point_merge.specs.Adding.{Settled, PointsAre}

module _ (image : List ℕ) (s : Side) where
  pub settled_here : Stands image s.feed → s.feed.next < s.feed.count → Settled image s s
  settled_here stands more = record { stands = stands; series = refl; done = λ none. absurd (omega arith); points = refl }

  module _ (none : s.feed.count ≤ s.feed.next) (columns : Columns read_block_most) where
    pub settled-block : (g : Feed) → BlockOpened image s.feed columns.times columns.values g → Settled image s (record { feed = g; columns = columns })
    settled-block g b = record {
      stands = b.stands;
      series = b.kept.series;
      done = λ (used : g.count ≤ g.next). absurd (omega (arith, b.from, b.some));
      points = sym (block-after s.feed s.columns.times s.columns.values image columns.times columns.values g none b);
    }

    pub settled-end : Stands image s.feed → s.feed.cursor.left ≡ 0 → Settled image s (record { feed = s.feed; columns = columns })
    settled-end stands last = record {
      stands = stands;
      series = refl;
      done = λ used. record { held = used; left = last };
      points = points-blocks s.feed columns.times columns.values image none ∙ sym (points-blocks s.feed s.columns.times s.columns.values image none);
    }

-- ---- points of the decoded block are passed

-- the feed at place `next` of its decoded block
abbrev pub passed_to : ℕ → Feed → Feed
passed_to next f = record { start = f.start; cursor = f.cursor; next = next; count = f.count }

pub passed : (image : List ℕ) (f : Feed) (next : ℕ) → Stands image f → next ≤ f.count → Left image (passed_to next f) (blocks_left image f) (series_left image f)
passed image f next s most = refilled image f s next f.count most s.count_most

-- those that are left
pub points-rest : (s : Side) (p : Points) → PointsAre s p → (n : ℕ) → rest n p ≡ cells (s.feed.next + n) s.feed.count s.columns.times s.columns.values
unfolding cells
points-rest s p are n = rw (are.times, are.values, part-drop s.columns.times n s.feed.next s.feed.count, part-drop s.columns.values n s.feed.next s.feed.count) refl

-- The merged points of a key, added fill by fill: those to come and the fill come to what the key came to at first.
--   Along, Merging   between two steps
--   merging-starts, merging-settled   both sides are at their next points
--   merging-past, merging-ends   past every image, and with no point left
--   past_points, grown-fits, grown-less, grown-goes-on   the fill grew
use Prim.Native.Nat.{ℕ, ◌+◌, ◌≤◌, ◌<◌}
use mathlib.Core.Path.{◌≡◌, refl, ap, ap₂, sym, subst, ◌∙◌}
use mathlib.Core.List.{List, [], ◌∷◌, ◌++◌}
use native.Mathlib.Omega.{arith}
use lib.ListN.{length, length-append}
use Rattle.format.specs.declared.Columns.{Columns}
use Rattle.format.specs.Limits.{image_most, writer_block_most}
use Rattle.format.specs.Meaning.{Point}
use Rattle.format.specs.Merge.{merge_points}
use Rattle.format.specs.Block.{cells, filled}
use Rattle.builder.specs.declared.Builder.{Builder}
use Rattle.builder.specs.Steps.{in_fill, ExtendFits, Closed, closed_key, extend_places, extend_bytes}
use Rattle.builder.specs.Passes.{Near, Filling, Past}
use Rattle.builder.proofs.Passes.{past-key, extend_fits, extend-filling, extend_same}
use Rattle.feed.specs.declared.Feed.{Feed}
use Rattle.feed.specs.Feeds.{blocks_left, points_left, series_left, Stands, Done}
use Rattle.feed.proofs.Standing.{Left}
use Rattle.feed.proofs.Blocks.{no_block}
use Rattle.feed.proofs.Cells.{points-blocks}
use Rattle.block_merge.specs.declared.Merged.{Merged}
use Rattle.block_merge.specs.declared.side.Points.{Points}
use Rattle.block_merge.specs.Cells.{rest, Grown}
use Rattle.key_merge.specs.declared.Images.{Images}
use Rattle.point_merge.specs.declared.Side.{Side}
use Rattle.point_merge.specs.declared.Sides.{Sides}
use Rattle.point_merge.specs.Adding.{side_points, merged_points, Settled, PointsAre, PointsReady, AllAdded}
use Rattle.point_merge.proofs.Settles.{passed_to, passed, points-rest}

-- ---- between two steps

-- the feed x, further on in the key of f
pub record Along (image : List ℕ) (f x : Feed) : Type 0 where
  pub stands : Stands image x
  pub series : series_left image x ≡ series_left image f

-- from `first` and `opened` on: the open key comes to `whole`
pub record Merging (i : Images) (first : Sides) (opened : Builder) (whole : Closed) (s : Sides) (b : Builder) (out : List ℕ) : Type 0 where
  pub older-at : Along i.older.now first.older.feed s.older.feed
  pub newer-at : Along i.newer.now first.newer.feed s.newer.feed
  pub mode : b.mode ≡ opened.mode
  pub kind : b.kind ≡ opened.kind
  pub filling : Filling (merged_points i s) b out
  pub same : closed_key (merged_points i s) b out ≡ whole

-- ---- a longer fill

-- what is to come of a, behind f, where f' is the longer fill and r what is to come then
record Split (f f' a r : List Point) : Type 0 where
  pub added : List Point
  pub laid : f' ≡ f ++ added
  pub left : a ≡ added ++ r

split : (f f' a r : List Point) → f' ++ r ≡ f ++ a → length f ≤ length f' → Split f f' a r
split [] f' a r e h = record { added = f'; laid = refl; left = sym e }
split (p ∷ f) [] a r e h = absurd (omega arith)
split (p ∷ f) (q ∷ f') a r e h =
    let head : q ≡ p = cc in
    let tail : f' ++ r ≡ f ++ a = cc in
    let s = split f f' a r tail (omega arith) in
    record { added = s.added; laid = ap₂ (λ (z : Point) (l : List Point). z ∷ l) head s.laid; left = s.left }

-- ---- the steps

-- the sides, past the points that were added
abbrev pub past_points : Sides → Merged → Sides
past_points s to = record {
  older = record { feed = passed_to (s.older.feed.next + to.older) s.older.feed; columns = s.older.columns };
  newer = record { feed = passed_to (s.newer.feed.next + to.newer) s.newer.feed; columns = s.newer.columns };
}

pub merging-starts : {i : Images} {s : Sides} {b : Builder} {out : List ℕ} → PointsReady i s b out → Merging i s b (closed_key (merged_points i s) b out) s b out
merging-starts h = record {
  older-at = record { stands = h.older-stands; series = refl };
  newer-at = record { stands = h.newer-stands; series = refl };
  mode = refl;
  kind = refl;
  filling = h.filling;
  same = refl;
}

module _ {i : Images} {first : Sides} {opened : Builder} {whole : Closed} {s : Sides} {b : Builder} {out : List ℕ} (h : Merging i first opened whole s b out) where
  abbrev older : List ℕ
  older = i.older.now

  abbrev newer : List ℕ
  newer = i.newer.now

  abbrev x : Feed
  x = s.older.feed

  abbrev y : Feed
  y = s.newer.feed

  -- the points to come
  abbrev all : List Point
  all = merged_points i s

  pub merging-past : (b.places.ends.block.0 ≤ image_most → b.places.ends.entry.0 ≤ image_most → ⊥) → Past whole
  merging-past past = subst Past h.same (past-key b.mode b.kind (in_fill b) all b.places out past)

  pub merging-settled : {t : Sides} → Settled older s.older t.older → Settled newer s.newer t.newer → Merging i first opened whole t b out
  merging-settled {t} p q =
      let points : merged_points i t ≡ all = ap₂ merge_points p.points q.points in
      record {
        older-at = record { stands = p.stands; series = p.series ∙ h.older-at.series };
        newer-at = record { stands = q.stands; series = q.series ∙ h.newer-at.series };
        mode = h.mode;
        kind = h.kind;
        filling = subst (λ (ps : List Point). Filling ps b out) (sym points) h.filling;
        same = ap (λ (ps : List Point). closed_key ps b out) points ∙ h.same;
      }

  module _ (older-end : x.count ≤ x.next → Done x) (newer-end : y.count ≤ y.next → Done y) where
    pub merging-ends : x.count ≤ x.next → y.count ≤ y.next → AllAdded i first opened whole s b out
    merging-ends used spent =
        let ends = points-blocks x s.older.columns.times s.older.columns.values older used ∙ no_block older x h.older-at.stands (older-end used).left in
        let stops = points-blocks y s.newer.columns.times s.newer.columns.values newer spent ∙ no_block newer y h.newer-at.stands (newer-end spent).left in
        let none : all ≡ [] = ap₂ merge_points ends stops in
        record {
          older-done = record { stands = h.older-at.stands; done = older-end used; series = h.older-at.series };
          newer-done = record { stands = h.newer-at.stands; done = newer-end spent; series = h.newer-at.series };
          mode = h.mode;
          kind = h.kind;
          filling = subst (λ (ps : List Point). Filling ps b out) none h.filling;
          same = ap (λ (ps : List Point). closed_key ps b out) (sym none) ∙ h.same;
        }

    module _ {p q : Points} (are : PointsAre s.older p) (are' : PointsAre s.newer q)
        {to : Merged} {fill : Columns writer_block_most} (grown : Grown p q b.places.filled b.fill to fill)
        (some : 0 < length p.times.now + length q.times.now) where
      abbrev sides : Sides
      sides = past_points s to

      abbrev left : List Point
      left = merged_points i sides

      abbrev longer-fill : List Point
      longer-fill = filled to.filled fill.times fill.values

      older-passed : Left older sides.older.feed (blocks_left older x) (series_left older x)
      older-passed = passed older x (x.next + to.older) h.older-at.stands (omega (arith, grown.older-most, are.count, h.older-at.stands.next-most))

      newer-passed : Left newer sides.newer.feed (blocks_left newer y) (series_left newer y)
      newer-passed = passed newer y (y.next + to.newer) h.newer-at.stands (omega (arith, grown.newer-most, are'.count, h.newer-at.stands.next-most))

      -- of one side, its points from a place on
      side-same : (image : List ℕ) (side : Side) (r : Points) → PointsAre side r → (n m : ℕ) → m ≡ side.feed.next + n
          → blocks_left image (passed_to m side.feed) ≡ blocks_left image side.feed
          → side_points image (record { feed = passed_to m side.feed; columns = side.columns }) ≡ rest n r ++ blocks_left image side.feed
      unfolding points_left
      side-same image side r held n m e blocks = rw (e, points-rest side r held n) (ap (λ (ps : List Point). cells (side.feed.next + n) side.feed.count side.columns.times side.columns.values ++ ps) (subst (λ (k : ℕ). blocks_left image (passed_to k side.feed) ≡ blocks_left image side.feed) e blocks))

      all_same : longer-fill ++ left ≡ in_fill b ++ all
      all_same =
          let after = ap₂ merge_points (side-same older s.older p are to.older (x.next + to.older) refl older-passed.blocks) (side-same newer s.newer q are' to.newer (y.next + to.newer) refl newer-passed.blocks) in
          let before = ap₂ merge_points (side-same older s.older p are 0 x.next (omega arith) refl) (side-same newer s.newer q are' 0 y.next (omega arith) refl) in
          ap (λ (ps : List Point). longer-fill ++ ps) after
          ∙ grown.same (blocks_left older x) (blocks_left newer y)
          (λ used. no_block older x h.older-at.stands (older-end (omega (arith, used, are.count))).left)
          (λ used. no_block newer y h.newer-at.stands (newer-end (omega (arith, used, are'.count))).left)
          ∙ ap (λ (ps : List Point). in_fill b ++ ps) (sym before)

      few : b.places.filled < writer_block_most
      few = omega (arith, h.filling.fill, h.filling.few)

      long : length longer-fill ≡ to.filled
      long = grown.count h.filling.fill

      longer : b.places.filled < to.filled
      longer = grown.more some few

      parts : Split (in_fill b) longer-fill all left
      parts = split _ _ _ _ all_same (omega (arith, h.filling.fill, long, longer))

      filling-parts : Filling (parts.added ++ left) b out
      filling-parts = subst (λ (ps : List Point). Filling ps b out) parts.left h.filling

      pub grown-fits : ExtendFits to.filled (record { mode = b.mode; kind = b.kind; places = b.places; fill = fill }) out
      grown-fits = extend_fits parts.added left b out filling-parts to.filled fill parts.laid long grown.most

      pub grown-less : length left < length all
      grown-less =
          omega (arith, longer, h.filling.fill, long, ap length all_same, length-append longer-fill left, length-append (in_fill b) all)

      pub grown-goes-on : (out' : List ℕ) → out' ≡ extend_bytes b.mode b.kind longer-fill b.places out → Near b.places.ends
          → Merging i first opened whole sides (record { mode = b.mode; kind = b.kind; places = extend_places b.kind longer-fill b.places; fill = fill }) out'
      grown-goes-on out' laid near = record {
        older-at = record { stands = older-passed.stands; series = older-passed.series ∙ h.older-at.series };
        newer-at = record { stands = newer-passed.stands; series = newer-passed.series ∙ h.newer-at.series };
        mode = h.mode;
        kind = h.kind;
        filling = extend-filling parts.added left b out filling-parts to.filled fill parts.laid long grown.most out' laid near;
        same =
            extend_same parts.added left b out filling-parts to.filled fill parts.laid long grown.most out' laid
            ∙ ap (λ (ps : List Point). closed_key ps b out) (sym parts.left)
            ∙ h.same;
      }

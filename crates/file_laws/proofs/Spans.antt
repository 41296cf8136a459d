-- Blocks and the times of their points: the points of blocks ascend exactly when those of each block do and each block's min is above the max before it.
--   Spans b           a block with a point, its min the first time and its max the last
--   from_first, to_last   ascending points lie from the first time to the last
--   points_of, Ascend   the points of blocks; those of a block ascend
--   min-max           a block's min is at most its max
--   points-ascend     from blocks to their points
--   each-ascends, blocks-apart   from points to their blocks
use Prim.Native.Nat.{◌≤◌}
use mathlib.Core.Path.{◌≡◌, refl, subst}
use mathlib.Core.Bool.{true}
use mathlib.Core.List.{List, [], ◌∷◌, flat_map}
use lib.IntN.{ℤ}
use lib.Signed.{lt_z, le_z}
use lib.ListN.{length}
use Rattle.format.specs.Choice.{ascends, ascends_from, Each}
use Rattle.format.specs.Meaning.{Point}
use Rattle.format.specs.Block.{first_time, last_time}
use Rattle.format.proofs.Tests.{both_left, both_right, both_true}
use Rattle.format.proofs.Lists.{each_map, each_append, each_left, ascends-rest}
use Rattle.format.proofs.Orders.{le-reflexive, lt-le, lt-le-lt, le-lt-lt}
use Rattle.format.proofs.Points.{first_holds, last-holds}
use Rattle.merging.proofs.Sorted.{Above, Ascending, above-trans, ascending-append}
use Rattle.merging.proofs.Orders.{by_time}
use Rattle.acceptance.specs.Blocks.{Block}
use Rattle.acceptance.proofs.Layouts.{apart}

pub record Spans (b : Block) : Type 0 where
  pub some : 1 ≤ length b.points
  pub first : first_time b.points ≡ b.min
  pub last : last_time b.points ≡ b.max

-- ---- ascending points

pub from_first : (ps : List Point) → Ascending by_time ps → Each (λ p. le_z (first_time ps) p.time ≡ true) ps
from_first [] a = tt
from_first (p ∷ ps) a = (le-reflexive p.time, each_map (λ q. lt-le p.time q.time) ps a.0)

pub to_last : (ps : List Point) → Ascending by_time ps → Each (λ p. le_z p.time (last_time ps) ≡ true) ps
to_last [] a = tt
to_last (p ∷ []) a = (le-reflexive p.time, tt)
to_last (p ∷ q ∷ ps) a =
    let later = to_last (q ∷ ps) a.1 in
    (lt-le p.time (last_time (q ∷ ps)) (lt-le-lt p.time q.time (last_time (q ∷ ps)) a.0.0 later.0), later)

-- ---- blocks

abbrev pub points_of : List Block → List Point
points_of bs = flat_map (λ b. b.points) bs

abbrev pub Ascend : Block → Type 0
Ascend b = Ascending by_time b.points

-- what is before a block's min is before all its points, and before its max
before-points : (t : ℤ) (b : Block) → Spans b → Ascend b → lt_z t b.min ≡ true → Above by_time t b.points
before-points t b s a h =
    each_map (λ p k. lt-le-lt t b.min p.time h k) b.points
    (subst (λ (u : ℤ). Each (λ p. le_z u p.time ≡ true) b.points) s.first (from_first b.points a))

before-max : (t : ℤ) (b : Block) → Spans b → Ascend b → lt_z t b.min ≡ true → lt_z t b.max ≡ true
before-max t b s a h =
    subst (λ (u : ℤ). lt_z t u ≡ true) s.last (last-holds (λ u. lt_z t u ≡ true) b.points s.some (before-points t b s a h))

later-above : (a : Block) (bs : List Block) → Each Spans bs → Each Ascend bs → ascends_from apart a bs ≡ true → Above by_time a.max (points_of bs)
unfolding flat_map
later-above a [] s up e = tt
later-above a (b ∷ bs) s up e =
    let next = both_left (apart a b) _ e in
    each_append (λ p. lt_z a.max p.time ≡ true) b.points (points_of bs) (before-points a.max b s.0 up.0 next)
    (above-trans by_time a.max b.max (points_of bs) (before-max a.max b s.0 up.0 next)
    (later-above b bs s.1 up.1 (both_right (apart a b) _ e)))

pub min-max : (b : Block) → Spans b → Ascend b → le_z b.min b.max ≡ true
min-max b s a =
    let ordered = last-holds (λ t. le_z (first_time b.points) t ≡ true) b.points s.some (from_first b.points a) in
    rw (s.first, s.last) at ordered

up-to-max : (b : Block) → Spans b → Ascend b → Each (λ p. le_z p.time b.max ≡ true) b.points
up-to-max b s a = subst (λ (u : ℤ). Each (λ p. le_z p.time u ≡ true) b.points) s.last (to_last b.points a)

pub points-ascend : (bs : List Block) → Each Spans bs → Each Ascend bs → ascends apart bs ≡ true → Ascending by_time (points_of bs)
unfolding flat_map
points-ascend [] s up e = tt
points-ascend (b ∷ bs) s up e =
    let above = later-above b bs s.1 up.1 e in
    (ascending-append by_time b.points (points_of bs)).1 (
      up.0,
      points-ascend bs s.1 up.1 (ascends-rest apart b bs e),
      each_map (λ p k. each_map (λ q. le-lt-lt p.time b.max q.time k) (points_of bs) above) b.points (up-to-max b s.0 up.0),
    )

pub each-ascends : (bs : List Block) → Ascending by_time (points_of bs) → Each Ascend bs
unfolding flat_map
each-ascends [] a = tt
each-ascends (b ∷ bs) a = let (first, later, across) = (ascending-append by_time b.points (points_of bs)).0 a in (first, each-ascends bs later)

apart_from : (b : Block) (bs : List Block) → Each Spans (b ∷ bs) → Ascending by_time (points_of (b ∷ bs)) → ascends_from apart b bs ≡ true
unfolding flat_map
apart_from b [] s a = refl
apart_from b (c ∷ bs) s a =
    let (first, later, across) = (ascending-append by_time b.points (points_of (c ∷ bs))).0 a in
    let above = last-holds (λ t. Above by_time t (points_of (c ∷ bs))) b.points s.0.some across in
    let next = first_holds (λ t. lt_z (last_time b.points) t ≡ true) c.points s.1.0.some
    (each_left (λ p. lt_z (last_time b.points) p.time ≡ true) c.points (points_of bs) above) in
    both_true (rw (s.0.last, s.1.0.first) at next) (apart_from c bs s.1 later)

pub blocks-apart : (bs : List Block) → Each Spans bs → Ascending by_time (points_of bs) → ascends apart bs ≡ true
blocks-apart [] s a = refl
blocks-apart (b ∷ bs) s a = apart_from b bs s a

-- Points go from the blocks into the fill.
--   rest-next, rest_none     the next point of a block and those after it, and none
--   merge-next               the next point of a merge, by which time is earlier
--   next-most                no side passes more than one point
--   moved_none, moved_on, next-moved   no point, two moves one after the other, and one point
--   copied-count, copied-same   points of one block
use Prim.Native.Nat.{ℕ, ◌+◌, ◌≤◌, ◌<◌}
use mathlib.Core.Path.{◌≡◌, refl, sym, ap, ap₂, ◌∙◌}
use mathlib.Core.Logic.{⊎_elim}
use mathlib.Core.Bool.{Bool, true, false}
use mathlib.Core.List.{List, [], ◌∷◌, ◌++◌, append_assoc}
use native.Mathlib.Omega.{arith}
use lib.IntN.{ℤ, pos}
use lib.ListN.{length, get_or, take, drop, drop_of_length-le, length-append, take-append-drop}
use lib.Seq.{drop-cons, length-take-le}
use native.Mathlib.Numerals.{add-one}
use lib.Signed.{lt_z}
use Rattle.format.proofs.Tests.{true-or-false, never}
use Rattle.std.specs.Prelude.{if◌then◌else◌}
use Rattle.format.specs.Meaning.{Point, point_of}
use Rattle.format.specs.Merge.{merge_points}
use Rattle.format.proofs.Orders.{time-irreflexive, time-transitive, time-total}
use Rattle.merging.proofs.Walk.{points-older, points-newer, points-both}
use Rattle.format.proofs.Points.{points-length}
use Rattle.format.specs.Block.{points_from}
use Rattle.builder.proofs.Fills.{points-append, fuller-is}
use Rattle.block_merge.specs.declared.Merged.{Merged}
use Rattle.block_merge.specs.declared.side.Points.{Points}
use Rattle.block_merge.specs.Cells.{rest, Fill, in_cells, step, NextLaid, Moved}

-- ---- the points of a block

module _ (p : Points) (i : ℕ) where
  pub rest-next : i < length p.times.now → rest i p ≡ point_of (get_or p.times.now i (pos 0)) (get_or p.values.now i 0) ∷ rest (i + 1) p
  rest-next h =
      let k : i < length p.values.now = omega (arith, p.same, h) in
      rw (drop-cons p.times.now i (pos 0), drop-cons p.values.now i 0, add-one i)

  pub rest_none : length p.times.now ≤ i → rest i p ≡ []
  rest_none h = rw (drop_of_length-le p.times.now h)

-- ---- the next point

-- a point that waits, or was passed, and those after it
abbrev pub waiting : (waits : Bool) → Point → List Point → List Point
waiting true p ps = p ∷ ps
waiting false p ps = ps

not-both : (a b : ℤ) → lt_z a b ≡ true → lt_z b a ≡ false
not-both a b h = ⊎_elim (λ k. never (time-transitive a b a h k) (time-irreflexive a)) (λ k. k) (true-or-false (lt_z b a))

module _ (a : ℤ) (v : ℕ) (b : ℤ) (w : ℕ) (ps qs : List Point) where
  abbrev p : Point
  p = point_of a v

  abbrev q : Point
  q = point_of b w

  -- what the tests x and y make of the two
  abbrev after : (x y : Bool) → List Point
  after x y = point_of (if x then a else b) (if x then v else w) ∷ merge_points (waiting y p ps) (waiting x q qs)

  pub merge-next : merge_points (p ∷ ps) (q ∷ qs) ≡ after (lt_z a b) (lt_z b a)
  merge-next =
      ⊎_elim (λ h. points-older p q ps qs h ∙ sym (ap₂ after h (not-both a b h)))
      (λ h. ⊎_elim (λ k. points-newer p q ps qs k ∙ sym (ap₂ after h k)) (λ k. points-both p q ps qs (time-total a b h k) ∙ sym (ap₂ after h k)) (true-or-false (lt_z b a)))
      (true-or-false (lt_z a b))

-- ---- a move

step-most : (waits : Bool) → step waits ≤ 1
step-most true = omega arith
step-most false = omega arith

-- no side passes more than one point
pub next-most : {older : Points} {i : ℕ} {newer : Points} {j : ℕ} {fill : Fill} {n i' j' : ℕ} {fill' : Fill}
    → NextLaid older i newer j fill n i' j' fill' → (i' ≤ i + 1) × (j' ≤ j + 1)
next-most {older} {i} {newer} {j} h =
    let a = get_or older.times.now i (pos 0) in
    let b = get_or newer.times.now j (pos 0) in
    (omega (arith, h.older-next, step-most (lt_z b a)), omega (arith, h.newer-next, step-most (lt_z a b)))

module _ (older newer : Points) where
  pub moved_none : (at : Merged) (fill : Fill) → at.older ≤ length older.times.now → at.newer ≤ length newer.times.now → Moved older newer at fill at fill
  moved_none at fill h k = record { older-most = h; newer-most = k; count = λ e. e; same = λ ps qs. refl }

  pub moved_on : {at on to : Merged} {fill fill' fill'' : Fill}
      → Moved older newer at fill on fill' → Moved older newer on fill' to fill'' → Moved older newer at fill to fill''
  moved_on p q = record {
    older-most = q.older-most;
    newer-most = q.newer-most;
    count = λ e. q.count (p.count e);
    same = λ ps qs. q.same ps qs ∙ p.same ps qs;
  }

  -- a side after the step
  stepped : (p : Points) (i : ℕ) (waits : Bool) → i < length p.times.now → (ps : List Point)
      → rest (i + step waits) p ++ ps ≡ waiting waits (point_of (get_or p.times.now i (pos 0)) (get_or p.values.now i 0)) (rest (i + 1) p ++ ps)
  stepped p i true more ps = let e : i + 0 ≡ i = omega arith in rw (e, rest-next p i more)
  stepped p i false more ps = refl

  module _ (i j n : ℕ) (fill : Fill) (h : i < length older.times.now) (k : j < length newer.times.now) where
    abbrev a : ℤ
    a = get_or older.times.now i (pos 0)

    abbrev b : ℤ
    b = get_or newer.times.now j (pos 0)

    -- the point that is laid
    abbrev laid : Point
    laid = point_of (if lt_z a b then a else b) (if lt_z a b then get_or older.values.now i 0 else get_or newer.values.now j 0)

    one-more : {i' j' : ℕ} {fill' : Fill} → NextLaid older i newer j fill n i' j' fill' → in_cells (n + 1) fill' ≡ in_cells n fill ++ (laid ∷ [])
    one-more next = rw (next.time, next.value) (fuller-is n fill.times fill.values _ _ next.room.in-times next.room.in-values)

    pub next-moved : {i' j' : ℕ} {fill' : Fill} → NextLaid older i newer j fill n i' j' fill'
        → Moved older newer (record { older = i; newer = j; filled = n }) fill (record { older = i'; newer = j'; filled = n + 1 }) fill'
    next-moved next = record {
      older-most = omega (arith, next.older-next, step-most (lt_z b a));
      newer-most = omega (arith, next.newer-next, step-most (lt_z a b));
      count = λ e. omega (arith, e, ap length (one-more next), length-append (in_cells n fill) (laid ∷ []));
      same = λ ps qs.
          rw (
            next.older-next,
            next.newer-next,
            one-more next,
            stepped older i (lt_z b a) h ps,
            stepped newer j (lt_z a b) k qs,
            rest-next older i h,
            rest-next newer j k,
          )
          (append_assoc (in_cells n fill) _ _
          ∙ ap (λ (l : List Point). in_cells n fill ++ l)
          (sym (merge-next a (get_or older.values.now i 0) b (get_or newer.values.now j 0) (rest (i + 1) older ++ ps) (rest (j + 1) newer ++ qs))));
    }

-- ---- points of one block

-- the first points of a block were laid behind n points
module _ (source : Points) (fill : Fill) (n more : ℕ) (inside : more ≤ length source.times.now) (in-times : n ≤ length fill.times) (in-values : n ≤ length fill.values)
    (fill' : Fill) (times : take (n + more) fill'.times ≡ take n fill.times ++ take more source.times.now) (values : take (n + more) fill'.values ≡ take n fill.values ++ take more source.values.now) where
  abbrev laid-points : List Point
  laid-points = points_from (take more source.times.now) (take more source.values.now)

  taken-even : length (take more source.times.now) ≡ length (take more source.values.now)
  taken-even = length-take-le more source.times.now inside ∙ sym (length-take-le more source.values.now (omega (arith, inside, source.same)))

  filled-more : in_cells (n + more) fill' ≡ in_cells n fill ++ laid-points
  filled-more =
      let even : length (take n fill.times) ≡ length (take n fill.values) = length-take-le n fill.times in-times ∙ sym (length-take-le n fill.values in-values) in
      ap₂ (λ (ts : List ℤ) (vs : List ℕ). points_from ts vs) times values ∙ points-append (take n fill.times) (take n fill.values) _ _ even

  source-parts : laid-points ++ rest more source ≡ rest 0 source
  source-parts =
      sym (points-append (take more source.times.now) (take more source.values.now) (drop more source.times.now) (drop more source.values.now) taken-even)
      ∙ ap₂ (λ (ts : List ℤ) (vs : List ℕ). points_from ts vs) (take-append-drop more source.times.now) (take-append-drop more source.values.now)

  pub copied-count : length (in_cells n fill) ≡ n → length (in_cells (n + more) fill') ≡ n + more
  copied-count e =
      let taken = length-take-le more source.times.now inside in
      omega (arith, e, ap length filled-more, length-append (in_cells n fill) laid-points, points-length (take more source.times.now) (take more source.values.now) (sym taken-even), taken)

  pub copied-same : in_cells (n + more) fill' ++ rest more source ≡ in_cells n fill ++ rest 0 source
  copied-same = rw filled-more (append_assoc (in_cells n fill) laid-points (rest more source) ∙ ap (λ (l : List Point). in_cells n fill ++ l) source-parts)

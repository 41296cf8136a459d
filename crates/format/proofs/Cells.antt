-- Points that stand in two arrays, times and values.
--   cells-none, cells-next, cells-first   none, the next one and those after it, and the first n
--   filled-length                         the first n are n
--   points-back                           points whose times and values were laid over the front
--   first_cell, last-cell                 their first and last time
--   filled-first, filled-last             the first and last time of the first n
use Prim.Native.Nat.{ℕ, suc, ◌+◌, ◌-◌, ◌≤◌, ◌<◌}
use mathlib.Core.Path.{◌≡◌, refl, sym, ◌∙◌}
use mathlib.Core.List.{List, [], ◌∷◌, ◌++◌, map}
use native.Mathlib.Omega.{arith}
use lib.IntN.{ℤ, pos}
use lib.ListN.{length, take, drop, get_or, length-map, take-append-drop}
use lib.Seq.{take_at, length-take-le}
use Rattle.format.specs.Bytes.{overwrite}
use Rattle.format.specs.Meaning.{Point, point_of}
use Rattle.format.specs.Block.{cells, filled, first_time, last_time}
use Rattle.format.proofs.Parts.{part-whole, part_none, part-next}
use Rattle.format.proofs.Points.{points-times, points-length, points-again}

-- ---- from a place up to another

module _ (times : List ℤ) (values : List ℕ) where
  pub cells-first : (n : ℕ) → cells 0 n times values ≡ filled n times values
  unfolding cells
  cells-first n = rw (part-whole times n, part-whole values n)

  module _ (from to : ℕ) where
    pub cells-none : to ≤ from → cells from to times values ≡ []
    unfolding cells
    cells-none h = rw (part_none times from to h)

    pub cells-next : from < to → to ≤ length times → to ≤ length values
        → cells from to times values ≡ point_of (get_or times from (pos 0)) (get_or values from 0) ∷ cells (from + 1) to times values
    unfolding cells
    cells-next more in-times in-values = rw (part-next times (pos 0) from to more in-times, part-next values 0 from to more in-values)

-- ---- laid over the front

pub points-back : (ps : List Point) (n : ℕ) (old_times new_times : List ℤ) (old_values new_values : List ℕ) → length ps ≡ n
    → new_times ≡ overwrite (map (λ p. p.time) ps) old_times → new_values ≡ overwrite (map (λ p. p.value) ps) old_values
    → filled n new_times new_values ≡ ps
points-back ps n old_times new_times old_values new_values count times values =
    rw (
      times,
      values,
      take_at (map (λ p. p.time) ps) (drop (length (map (λ p. p.time) ps)) old_times) n (length-map ps (λ p. p.time) ∙ count),
      take_at (map (λ p. p.value) ps) (drop (length (map (λ p. p.value) ps)) old_values) n (length-map ps (λ p. p.value) ∙ count),
    )
    (points-again ps)

-- cells that begin with the times of the points
module _ (old : List ℤ) where
  first_of : (ps : List Point) → 1 ≤ length ps → get_or (map (λ p. p.time) ps ++ old) 0 (pos 0) ≡ first_time ps
  first_of [] some = absurd (omega arith)
  first_of (p ∷ ps) some = refl

  last_of : (ps : List Point) → 1 ≤ length ps → get_or (map (λ p. p.time) ps ++ old) (length ps - 1) (pos 0) ≡ last_time ps
  last_of [] some = absurd (omega arith)
  last_of (p ∷ []) some = refl
  last_of (p ∷ q ∷ ps) some =
      let more : length (p ∷ q ∷ ps) - 1 ≡ suc (length (q ∷ ps) - 1) = omega arith in
      rw more (last_of (q ∷ ps) (omega arith))

module _ (old new : List ℤ) (ps : List Point) (laid : new ≡ overwrite (map (λ p. p.time) ps) old) (some : 1 ≤ length ps) where
  pub first_cell : get_or new 0 (pos 0) ≡ first_time ps
  first_cell = rw laid (first_of (drop (length (map (λ p. p.time) ps)) old) ps some)

  pub last-cell : (n : ℕ) → length ps ≡ n → get_or new (n - 1) (pos 0) ≡ last_time ps
  last-cell n count = rw (laid, ← count) (last_of (drop (length (map (λ p. p.time) ps)) old) ps some)

-- ---- the first n

module _ (n : ℕ) (times : List ℤ) (values : List ℕ) (in-times : n ≤ length times) (in-values : n ≤ length values) where
  size : length (take n times) ≡ n
  size = length-take-le n times in-times

  same : length (take n values) ≡ length (take n times)
  same = length-take-le n values in-values ∙ sym size

  pub filled-length : length (filled n times values) ≡ n
  filled-length = points-length (take n times) (take n values) same ∙ size

  -- the times begin with theirs
  front : times ≡ overwrite (map (λ p. p.time) (filled n times values)) times
  front = rw (points-times (take n times) (take n values) same, size) (sym (take-append-drop n times))

  module _ (some : 1 ≤ n) where
    pub filled-first : first_time (filled n times values) ≡ get_or times 0 (pos 0)
    filled-first = sym (first_cell times times (filled n times values) front (omega (arith, filled-length)))

    pub filled-last : last_time (filled n times values) ≡ get_or times (n - 1) (pos 0)
    filled-last = sym (last-cell times times (filled n times values) front (omega (arith, filled-length)) n filled-length)

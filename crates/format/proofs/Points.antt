-- Points from times and values, one by one.
--   points-times, points-values, points-length   the parts of points, and how many
--   points-again                                 points from their own times and values
--   first_holds, last-holds                      what holds of each time holds of the first and of the last
--   time-good                                    the time of a good point is a signed 64-bit number
use Prim.Native.Nat.{ℕ, suc, ◌^◌, ◌≤◌, ◌<◌}
use mathlib.Core.Path.{◌≡◌, refl, ap}
use mathlib.Core.Bool.{true, ◌&&◌}
use mathlib.Core.List.{List, [], ◌∷◌, map}
use native.Mathlib.Omega.{arith}
use lib.IntN.{ℤ}
use lib.Signed.{le_z, mag}
use lib.ListN.{length}
use Rattle.format.specs.Meaning.{Point}
use Rattle.format.specs.declared.Kind.{Kind}
use Rattle.format.specs.Limits.{time_least, time_most}
use Rattle.format.specs.Choice.{Each}
use Rattle.format.specs.Block.{points_from, first_time, last_time}
use Rattle.format.specs.WellFormed.{good_value, good_point}
use Rattle.format.proofs.Tests.{both_left}
use Rattle.format.proofs.Orders.{time-fits}

pub points-times : (ts : List ℤ) (vs : List ℕ) → length vs ≡ length ts → map (λ p. p.time) (points_from ts vs) ≡ ts
points-times [] vs e = refl
points-times (t ∷ ts) [] e = absurd (omega arith)
points-times (t ∷ ts) (v ∷ vs) e = ap (λ (l : List ℤ). t ∷ l) (points-times ts vs (omega arith))

pub points-values : (ts : List ℤ) (vs : List ℕ) → length vs ≡ length ts → map (λ p. p.value) (points_from ts vs) ≡ vs
points-values [] [] e = refl
points-values [] (v ∷ vs) e = absurd (omega arith)
points-values (t ∷ ts) [] e = absurd (omega arith)
points-values (t ∷ ts) (v ∷ vs) e = ap (λ (l : List ℕ). v ∷ l) (points-values ts vs (omega arith))

pub points-length : (ts : List ℤ) (vs : List ℕ) → length vs ≡ length ts → length (points_from ts vs) ≡ length ts
points-length [] vs e = refl
points-length (t ∷ ts) [] e = absurd (omega arith)
points-length (t ∷ ts) (v ∷ vs) e = ap suc (points-length ts vs (omega arith))

pub points-again : (ps : List Point) → points_from (map (λ p. p.time) ps) (map (λ p. p.value) ps) ≡ ps
points-again [] = refl
points-again (p ∷ ps) = ap (λ (l : List Point). p ∷ l) (points-again ps)

module _ (P : ℤ → Type 0) where
  pub first_holds : (ps : List Point) → 1 ≤ length ps → Each (λ p. P p.time) ps → P (first_time ps)
  first_holds [] h e = absurd (omega arith)
  first_holds (p ∷ ps) h e = e.0

  pub last-holds : (ps : List Point) → 1 ≤ length ps → Each (λ p. P p.time) ps → P (last_time ps)
  last-holds [] h e = absurd (omega arith)
  last-holds (p ∷ []) h e = e.0
  last-holds (p ∷ q ∷ ps) h e = last-holds (q ∷ ps) (omega arith) e.1

pub time-good : (kind : Kind) (p : Point) → good_point kind p ≡ true → mag p.time < 2 ^ 63
time-good kind p good = time-fits p.time (both_left (le_z time_least p.time && le_z p.time time_most) (good_value kind p.value) good)

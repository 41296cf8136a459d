-- Times with one difference between them: how far the last of them lies says whether one passes 2^63 − 1.
--   regular-late   the differences take more than what is left
--   regular-step   a difference taken off
--   regular-wide, regular-over   the tests of the room
use mathlib.Core.Path.{◌≡◌, sym, ap, ◌∙◌}
use mathlib.Core.Bool.{false}
use mathlib.Core.Logic.{⊎_elim}
use Prim.Native.Nat.{ℕ, zero, suc, ◌+◌, ◌-◌, ◌*◌, ◌/◌, ◌^◌, ◌≤◌, ◌<◌}
use native.Mathlib.Nat.{zero-mul, suc-mul, mul_comm, div-lt_iff_lt-mul}
use native.Mathlib.Omega.{arith}
use lib.IntN.{ℤ, pos, ◌+ℤ◌}
use lib.ListN.{replicate}
use Rattle.format.specs.declared.Refusal.TheVariants.{Timestamps}
use Rattle.format.specs.Refusals.{refused}
use Rattle.format.specs.Signed.{signed, wrap_sub}
use Rattle.format.specs.Timestamps.{times_from, times_of}
use Rattle.format.proofs.Cases.{below_or}
use Rattle.timestamps.proofs.Clock.{time_at, time-start, time-step, time-past, time-late}
use Rattle.timestamps.proofs.Refusing.{refuse-late}
use Rattle.timestamps.proofs.Adding.{late, first-late}

module _ (d : ℕ) where
  late-from : (k left : ℕ) → left < 2 ^ 64 → left < k * d → late (times_from (time_at left) (replicate k d)) ≡ false
  late-from zero left small h = absurd (omega (arith, zero-mul d))
  late-from (suc k) left small h =
      ⊎_elim
      (λ (l : left < d). rw (time-late left small) (first-late (time_at left +ℤ pos d) (replicate k d) (time-past left small d l)))
      (λ (l : d ≤ left). rw (time-late left small, time-step left small d l) (late-from k (left - d) (omega arith) (omega (arith, suc-mul k d))))
      (below_or left d)

  pub regular-late : (b k : ℕ) → b < 2 ^ 64 → wrap_sub (2 ^ 63 - 1) b < k * d → times_of 0 (signed b) (replicate k d) ≡ refused Timestamps 0
  regular-late b k small h =
      refuse-late (signed b) (replicate k d)
      (ap (λ (t : ℤ). late (times_from t (replicate k d))) (sym (time-start b small)) ∙ late-from k (wrap_sub (2 ^ 63 - 1) b) (omega arith) h)

  module _ (room k : ℕ) (some : 1 ≤ k) where
    pub regular-wide : room / k < d → room < k * d
    regular-wide h = omega (arith, (div-lt_iff_lt-mul {k = k} {x = room} {y = d} some).0 h, mul_comm k d)

    pub regular-over : room < d → room < k * d
    regular-over h = let one : k ≡ suc (k - 1) = omega arith in omega (arith, ap (λ (m : ℕ). m * d) one ∙ suc-mul (k - 1) d)

  -- what a step leaves
  pub regular-step : (k i left : ℕ) → i < k → (k - i) * d ≤ left → (d ≤ left) × ((k - (i + 1)) * d ≤ left - d)
  regular-step k i left h fits =
      let more : (k - i) * d ≡ (k - (i + 1)) * d + d = ap (λ (m : ℕ). m * d) (omega arith) ∙ suc-mul (k - (i + 1)) d in
      (omega arith, omega arith)

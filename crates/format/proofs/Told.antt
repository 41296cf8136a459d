-- What the code's `Result` says of the outcome that it comes of.
--   told-ok, told-err          an outcome by its place alone
--   faulted-ok, faulted-err    an outcome by its refusal and its place
--   ok-err, err-ok             no `Result` is both
use Rattle.std.specs.Prelude.{Ok, Err}
use Rattle.std.proofs.Common.{◌≡◌, ℕ, refl, arith}
use Rattle.format.specs.declared.Broken.{Broken}
use Rattle.format.specs.declared.Fault.{Fault}
use Rattle.format.specs.declared.Refusal.{Refusal}
use Rattle.format.specs.Refusals.{Outcome, ok, refused, told, faulted}

pub ok-err : {X A E : Type 0} {a : A} {e : E} → Ok a ≡ Err e → X
ok-err e = let z : ◌≡◌ {A = ℕ} 0 1 = cc in absurd (omega arith)

pub err-ok : {X A E : Type 0} {a : A} {e : E} → Err e ≡ Ok a → X
err-ok e = let z : ◌≡◌ {A = ℕ} 0 1 = cc in absurd (omega arith)

module _ {A B : Type 0} (f : A → B) where
  pub told-ok : (a : Outcome A) (b : B) → told f a ≡ Ok b → (x : A) × (a ≡ ok x) × (f x ≡ b)
  told-ok (ok x) b e = (x, refl, cc)
  told-ok (refused r place) b e = err-ok e

  pub told-err : (a : Outcome A) (b : Broken) → told f a ≡ Err b → (r : Refusal) × (a ≡ refused r b.place)
  told-err (ok x) b e = ok-err e
  told-err (refused r place) b e = let here : record { place = place } ≡ b = cc in (r, rw (← here))

  pub faulted-ok : (a : Outcome A) (b : B) → faulted f a ≡ Ok b → (x : A) × (a ≡ ok x) × (f x ≡ b)
  faulted-ok (ok x) b e = (x, refl, cc)
  faulted-ok (refused r place) b e = err-ok e

  pub faulted-err : (a : Outcome A) (b : Fault) → faulted f a ≡ Err b → a ≡ refused b.refusal b.place.0
  faulted-err (ok x) b e = ok-err e
  faulted-err (refused r place) b e =
      let here : record { refusal = r; place = record { 0 = place } } ≡ b = cc in rw (← here)

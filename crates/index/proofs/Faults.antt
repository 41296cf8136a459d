-- What a `Result` with a fault says of the outcome that it answers.
--   value_of     a value comes of a value
--   refusal_of   a fault comes of a refusal
use Prim.Native.Nat.{ℕ}
use mathlib.Core.Path.{◌≡◌, refl, ap}
use native.Mathlib.Omega.{arith}
use Rattle.std.specs.Prelude.{Result, Ok, Err}
use Rattle.format.specs.declared.Fault.{Fault}
use Rattle.format.specs.Refusals.{Outcome, ok, refused, faulted, ◌>>=◌}

module _ {A B : Type 0} (f : A → B) where
  pub value_of : (r : Outcome A) (b : B) → faulted f r ≡ Ok b → (a : A) × (r ≡ ok a) × (f a ≡ b)
  value_of (ok a) b e = (a, refl, cc)
  value_of (refused r place) b e = absurd (let z : ◌≡◌ {A = ℕ} 0 1 = cc in omega arith)

  -- the refusal of a fault
  abbrev refused_by : Result B Fault → Outcome A → Outcome A
  refused_by (Ok b) r = r
  refused_by (Err fault) r = refused fault.refusal fault.place.0

  pub refusal_of : (r : Outcome A) (fault : Fault) → faulted f r ≡ Err fault → r ≡ refused fault.refusal fault.place.0
  refusal_of (ok a) fault e = cc
  refusal_of (refused r place) fault e = let w = refused r place in ap (λ (o : Result B Fault). refused_by o w) e

-- what is told of a value may be told of another that comes of it
pub keep : {A B C : Type 0} (f : A → B) (g : C → B) (h : C → A) → ((a : C) → f (h a) ≡ g a) → (r : Outcome C) → faulted f (r >>= λ v. ok (h v)) ≡ faulted g r
keep f g h same (ok v) = ap Ok (same v)
keep f g h same (refused r place) = refl

-- The byte of a kind.
--   kind-back     it is read as that kind
--   kind-unique   a byte that is read as a kind is that kind's
--   only-kind     another byte is refused in one way
use Prim.Native.Nat.{ℕ}
use mathlib.Core.Path.{◌≡◌, refl, ap, ◌∙◌}
use mathlib.Core.Bool.{Bool, true, false}
use lib.Dec.{eqb}
use borrow.Author.Tests.{eqb-true}
use Rattle.format.specs.declared.Kind.{Kind}
use Rattle.format.specs.declared.Kind.TheVariants.{Integer, Boolean}
use Rattle.format.specs.declared.Refusal.{Refusal}
use Rattle.format.specs.Refusals.{ok}
use Rattle.format.specs.Kinds.{kind_byte, read_kind}
use Rattle.format.proofs.Results.{ok-path, refused-not, Only, only-choice}

module _ (r : Refusal) (place : ℕ) where
  pub kind-back : (kind : Kind) → read_kind r place (kind_byte kind) ≡ ok kind
  kind-back Integer = refl
  kind-back Boolean = refl

  pub kind-unique : (b : ℕ) (kind : Kind) → read_kind r place b ≡ ok kind → b ≡ kind_byte kind
  kind-unique b kind e = go (eqb b 1) refl (eqb b 2) refl
    where
      go : (t : Bool) → eqb b 1 ≡ t → (u : Bool) → eqb b 2 ≡ u → b ≡ kind_byte kind
      go true f u g = eqb-true b 1 f ∙ ap kind_byte (ok-path (rw f at e))
      go false f true g = eqb-true b 2 g ∙ ap kind_byte (ok-path (rw (f, g) at e))
      go false f false g = refused-not (rw (f, g) at e)

  pub only-kind : (b : ℕ) → Only r (read_kind r place b)
  only-kind b = only-choice r (eqb b 1) _ _ tt (only-choice r (eqb b 2) _ _ tt refl)

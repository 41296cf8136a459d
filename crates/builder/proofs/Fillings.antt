-- Points in the fill and points to come, as lists.
--   every-right, ascends-right   the last part of what passes
--   points-within                no more points than times or values
--   fill-ascends, fill-of-kind   what a block asks of times and values in two arrays
use Prim.Native.Nat.{ℕ, zero, suc, ◌≤◌, ◌<◌}
use mathlib.Core.Path.{◌≡◌, refl}
use mathlib.Core.Bool.{Bool, true, ◌&&◌}
use mathlib.Core.List.{List, [], ◌∷◌, ◌++◌}
use native.Mathlib.Omega.{arith}
use lib.IntN.{ℤ}
use lib.Signed.{lt_z, le_z}
use lib.Dec.{leb}
use lib.ListN.{length, get_or}
use borrow.Author.Tests.{leb-true}
use Rattle.format.specs.declared.Kind.{Kind}
use Rattle.format.specs.declared.Kind.TheVariants.{Integer, Boolean}
use Rattle.format.specs.Choice.{every, ascends, ascends_from}
use Rattle.format.specs.Meaning.{Point, point_of, point_before}
use Rattle.format.specs.WellFormed.{good_point}
use Rattle.format.specs.Block.{points_from}
use Rattle.block_writer.specs.Fits.{OfKind}
use Rattle.format.proofs.Tests.{both_right, both_left}
use Rattle.format.specs.Limits.{time_least, time_most}

module _ {A : Type 0} (p : A → Bool) where
  pub every-right : (xs ys : List A) → every p (xs ++ ys) ≡ true → every p ys ≡ true
  every-right [] ys e = e
  every-right (x ∷ xs) ys e = every-right xs ys (both_right (p x) (every p (xs ++ ys)) e)

module _ {A : Type 0} (before : A → A → Bool) where
  from-right : (x y : A) (xs ys : List A) → ascends_from before x (xs ++ (y ∷ ys)) ≡ true → ascends_from before y ys ≡ true
  from-right x y [] ys e = both_right (before x y) (ascends_from before y ys) e
  from-right x y (z ∷ xs) ys e = from-right z y xs ys (both_right (before x z) (ascends_from before z (xs ++ (y ∷ ys))) e)

  pub ascends-right : (xs ys : List A) → ascends before (xs ++ ys) ≡ true → ascends before ys ≡ true
  ascends-right [] ys e = e
  ascends-right (x ∷ xs) [] e = refl
  ascends-right (x ∷ xs) (y ∷ ys) e = from-right x y xs ys e

-- ---- the times and values in the fill

pub points-within : (ts : List ℤ) (vs : List ℕ) → (length (points_from ts vs) ≤ length ts) × (length (points_from ts vs) ≤ length vs)
points-within [] vs = (omega arith, omega arith)
points-within (t ∷ ts) [] = (omega arith, omega arith)
points-within (t ∷ ts) (v ∷ vs) = let (a, b) = points-within ts vs in (omega (arith, a), omega (arith, b))

times-up : (u : Point) (ts : List ℤ) (vs : List ℕ) (ps : List Point) → length ts ≡ length vs
    → ascends_from point_before u (points_from ts vs ++ ps) ≡ true → ascends_from lt_z u.time ts ≡ true
times-up u [] vs ps same e = refl
times-up u (t ∷ ts) [] ps same e = absurd (omega (arith, same))
times-up u (t ∷ ts) (v ∷ vs) ps same e =
    rw (
      both_left (lt_z u.time t) (ascends_from point_before (point_of t v) (points_from ts vs ++ ps)) e,
      times-up (point_of t v) ts vs ps (omega (arith, same)) (both_right (lt_z u.time t) (ascends_from point_before (point_of t v) (points_from ts vs ++ ps)) e),
    )

pub fill-ascends : (ts : List ℤ) (vs : List ℕ) (ps : List Point) → length ts ≡ length vs
    → ascends point_before (points_from ts vs ++ ps) ≡ true → ascends lt_z ts ≡ true
fill-ascends [] vs ps same e = refl
fill-ascends (t ∷ ts) [] ps same e = absurd (omega (arith, same))
fill-ascends (t ∷ ts) (v ∷ vs) ps same e = times-up (point_of t v) ts vs ps (omega (arith, same)) e

-- ---- values of a kind

bit : (p : Point) → good_point Boolean p ≡ true → p.value < 2
bit p e = omega (arith, leb-true p.value 1 (both_right (le_z time_least p.time && le_z p.time time_most) (leb p.value 1) e))

bits-here : (ts : List ℤ) (vs : List ℕ) (ps : List Point) → length ts ≡ length vs → every (good_point Boolean) (points_from ts vs ++ ps) ≡ true
    → (i : ℕ) → get_or vs i 0 < 2
bits-here [] [] ps same e i = omega arith
bits-here [] (v ∷ vs) ps same e i = absurd (omega (arith, same))
bits-here (t ∷ ts) [] ps same e i = absurd (omega (arith, same))
bits-here (t ∷ ts) (v ∷ vs) ps same e zero = bit (point_of t v) (both_left (good_point Boolean (point_of t v)) (every (good_point Boolean) (points_from ts vs ++ ps)) e)
bits-here (t ∷ ts) (v ∷ vs) ps same e (suc i) =
    bits-here ts vs ps (omega (arith, same)) (both_right (good_point Boolean (point_of t v)) (every (good_point Boolean) (points_from ts vs ++ ps)) e) i

pub fill-of-kind : (kind : Kind) (ts : List ℤ) (vs : List ℕ) (ps : List Point) → length ts ≡ length vs → every (good_point kind) (points_from ts vs ++ ps) ≡ true → OfKind kind vs
fill-of-kind Integer ts vs ps same e = tt
fill-of-kind Boolean ts vs ps same e = bits-here ts vs ps same e

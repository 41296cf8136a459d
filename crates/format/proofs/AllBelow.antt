-- Lists of numbers below a bound, and of bytes: numbers below 256. A slice of u8 is a list of bytes (`shared-slice-known.given` says so of each index).
--   below-nil, below-cons, below-take, below-drop, below-append, below_right   parts and joins
--   below-of-every, every-of-below   from and to a test
--   below_each, each_below           from and to a fact of each element
use Prim.Native.Nat.{ℕ, zero, suc, ◌+◌, ◌<◌}
use mathlib.Core.Path.{◌≡◌, refl}
use mathlib.Core.Bool.{true}
use mathlib.Core.List.{List, [], ◌∷◌, ◌++◌}
use lib.ListN.{length, take, drop}
use lib.Seq.{get_or-drop, get_or-append-add}
use lib.Dec.{ltb}
use borrow.Author.Tests.{ltb-true, lt-ltb}
use Rattle.format.specs.Choice.{every, Each}
use Rattle.format.specs.Bytes.{AllBelow}
use Rattle.format.proofs.Tests.{both_left, both_right}

module _ (m : ℕ) where
  pub below-nil : 0 < m → AllBelow m []
  below-nil some i = some

  pub below-cons : (x : ℕ) (xs : List ℕ) → x < m → AllBelow m xs → AllBelow m (x ∷ xs)
  below-cons x xs h hs zero = h
  below-cons x xs h hs (suc i) = hs i

  pub below-drop : (n : ℕ) (xs : List ℕ) → AllBelow m xs → AllBelow m (drop n xs)
  below-drop n xs h i = rw get_or-drop (h (n + i))

  pub below-take : 0 < m → (n : ℕ) (xs : List ℕ) → AllBelow m xs → AllBelow m (take n xs)
  below-take some zero xs h i = some
  below-take some (suc n) [] h i = some
  below-take some (suc n) (x ∷ xs) h zero = h 0
  below-take some (suc n) (x ∷ xs) h (suc i) = below-take some n xs (λ j. h (suc j)) i

  pub below-append : (xs ys : List ℕ) → AllBelow m xs → AllBelow m ys → AllBelow m (xs ++ ys)
  below-append [] ys h k i = k i
  below-append (x ∷ xs) ys h k zero = h 0
  below-append (x ∷ xs) ys h k (suc i) = below-append xs ys (λ j. h (suc j)) k i

  -- what follows a part
  pub below_right : (xs ys zs : List ℕ) → zs ≡ xs ++ ys → AllBelow m zs → AllBelow m ys
  below_right xs ys zs e all i = rw (← get_or-append-add xs ys i 0, ← e) (all (length xs + i))

  pub below-of-every : 0 < m → (xs : List ℕ) → every (λ x. ltb x m) xs ≡ true → AllBelow m xs
  below-of-every some [] e i = some
  below-of-every some (x ∷ xs) e zero = ltb-true x m (both_left _ _ e)
  below-of-every some (x ∷ xs) e (suc i) = below-of-every some xs (both_right (ltb x m) _ e) i

  pub every-of-below : (xs : List ℕ) → AllBelow m xs → every (λ x. ltb x m) xs ≡ true
  every-of-below [] h = refl
  every-of-below (x ∷ xs) h = rw (lt-ltb x m (h 0)) (every-of-below xs (λ i. h (suc i)))

  pub below_each : (xs : List ℕ) → AllBelow m xs → Each (λ x. x < m) xs
  below_each [] h = tt
  below_each (x ∷ xs) h = (h 0, below_each xs (λ i. h (suc i)))

  pub each_below : 0 < m → (xs : List ℕ) → Each (λ x. x < m) xs → AllBelow m xs
  each_below some [] h = below-nil some
  each_below some (x ∷ xs) h = below-cons x xs h.0 (each_below some xs h.1)

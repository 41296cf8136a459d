-- The orders of times and of keys: each is strict and total.
--   time-irreflexive, time-transitive, time-total   times, by `lt_z`
--   lt_not_le, le-reflexive, lt-le, lt-le-lt, le-lt-lt   `le_z`, and the two together
--   same_time-refl, same_time-path, same-time, other-time   the test of two times
--   time-fits, fits-time                a time is a signed 64-bit number
--   key-irreflexive, key-transitive, key-total, empty-first   keys, by `key_before`
--   same_list-refl, same_list-path        the test of two keys
use Prim.Native.Nat.{ℕ, ◌^◌, ◌-◌, ◌<◌, ◌≤◌}
use mathlib.Core.Path.{◌≡◌, refl, sym, ap, ap₂, subst, ◌∙◌}
use mathlib.Core.Logic.{◌⊎◌, inl, inr, ⊎_elim}
use mathlib.Core.Bool.{Bool, true, false, not, ◌&&◌, ◌||◌}
use mathlib.Core.List.{List, [], ◌∷◌}
use native.Mathlib.Nat.{lt_trans, le_refl, le_antisymm}
use native.Mathlib.Omega.{arith}
use lib.Dec.{ltb, leb, eqb}
use lib.ListN.{length}
use lib.IntN.{ℤ, pos, negsuc}
use lib.Signed.{lt_z, le_z, mag}
use borrow.Author.Tests.{ltb-true, ltb-false, lt-ltb, le-ltb, leb-true, le-leb, lt-leb, eqb-true, eq-eqb, not-true}
use Rattle.format.specs.Limits.{time_least, time_most}
use Rattle.format.specs.Choice.{same_list}
use Rattle.format.specs.Signed.{same_time}
use Rattle.format.specs.KeyOrder.{key_before}
use Rattle.format.proofs.Tests.{true-or-false, never, and-true, or-false}

-- ---- numbers

less-irreflexive : (a : ℕ) → ltb a a ≡ false
less-irreflexive a = le-ltb a a (le_refl a)

less-transitive : (a b c : ℕ) → ltb a b ≡ true → ltb b c ≡ true → ltb a c ≡ true
less-transitive a b c h k = lt-ltb a c (lt_trans (ltb-true a b h) (ltb-true b c k))

less-total : (a b : ℕ) → ltb a b ≡ false → ltb b a ≡ false → a ≡ b
less-total a b h k = le_antisymm (ltb-false b a k) (ltb-false a b h)

same_number : (a : ℕ) → eqb a a ≡ true
same_number a = eq-eqb a a refl

-- ---- times

pub time-irreflexive : (a : ℤ) → lt_z a a ≡ false
time-irreflexive (pos a) = less-irreflexive a
time-irreflexive (negsuc a) = less-irreflexive a

pub time-transitive : (a b c : ℤ) → lt_z a b ≡ true → lt_z b c ≡ true → lt_z a c ≡ true
time-transitive (pos a) (pos b) (pos c) h k = less-transitive a b c h k
time-transitive (pos a) (pos b) (negsuc c) h k = k
time-transitive (pos a) (negsuc b) c h k = cc
time-transitive (negsuc a) (pos b) (pos c) h k = refl
time-transitive (negsuc a) (pos b) (negsuc c) h k = cc
time-transitive (negsuc a) (negsuc b) (pos c) h k = refl
time-transitive (negsuc a) (negsuc b) (negsuc c) h k = less-transitive c b a k h

pub time-total : (a b : ℤ) → lt_z a b ≡ false → lt_z b a ≡ false → a ≡ b
time-total (pos a) (pos b) h k = ap pos (less-total a b h k)
time-total (pos a) (negsuc b) h k = cc
time-total (negsuc a) (pos b) h k = cc
time-total (negsuc a) (negsuc b) h k = ap negsuc (less-total a b k h)

pub same_time-refl : (a : ℤ) → same_time a a ≡ true
same_time-refl (pos a) = same_number a
same_time-refl (negsuc a) = same_number a

pub same_time-path : (a b : ℤ) → same_time a b ≡ true → a ≡ b
same_time-path (pos a) (pos b) h = ap pos (eqb-true a b h)
same_time-path (pos a) (negsuc b) h = cc
same_time-path (negsuc a) (pos b) h = cc
same_time-path (negsuc a) (negsuc b) h = ap negsuc (eqb-true a b h)

number-order : (a b : ℕ) → leb a b ≡ not (ltb b a)
number-order a b =
    ⊎_elim (λ h. lt-leb a b (ltb-true b a h) ∙ ap not (sym h)) (λ h. le-leb a b (ltb-false b a h) ∙ ap not (sym h)) (true-or-false (ltb b a))

time-order : (a b : ℤ) → le_z a b ≡ not (lt_z b a)
time-order (pos a) (pos b) = number-order a b
time-order (pos a) (negsuc b) = refl
time-order (negsuc a) (pos b) = refl
time-order (negsuc a) (negsuc b) = number-order b a

pub lt_not_le : (a b : ℤ) → lt_z a b ≡ true → le_z b a ≡ false
lt_not_le a b h = time-order b a ∙ ap not h

pub le-reflexive : (a : ℤ) → le_z a a ≡ true
le-reflexive a = time-order a a ∙ ap not (time-irreflexive a)

le_not_lt : (a b : ℤ) → le_z a b ≡ true → lt_z b a ≡ false
le_not_lt a b h = not-true (lt_z b a) (sym (time-order a b) ∙ h)

pub lt-le-lt : (a b c : ℤ) → lt_z a b ≡ true → le_z b c ≡ true → lt_z a c ≡ true
lt-le-lt a b c h k =
    ⊎_elim (λ l. time-transitive a b c h l) (λ l. subst (λ (t : ℤ). lt_z a t ≡ true) (time-total b c l (le_not_lt b c k)) h)
    (true-or-false (lt_z b c))

pub le-lt-lt : (a b c : ℤ) → le_z a b ≡ true → lt_z b c ≡ true → lt_z a c ≡ true
le-lt-lt a b c h k =
    ⊎_elim (λ l. time-transitive a b c l k) (λ l. subst (λ (t : ℤ). lt_z t c ≡ true) (sym (time-total a b l (le_not_lt a b h))) k)
    (true-or-false (lt_z a b))

pub lt-le : (a b : ℤ) → lt_z a b ≡ true → le_z a b ≡ true
lt-le a b h =
    time-order a b
    ∙ ap not (⊎_elim (λ k. never (time-transitive a b a h k) (time-irreflexive a)) (λ k. k) (true-or-false (lt_z b a)))

pub same-time : (t u : ℤ) → t ≡ u → same_time t u ≡ true
same-time t u e = rw e (same_time-refl u)

pub other-time : (t u : ℤ) → (t ≡ u → ⊥) → same_time t u ≡ false
other-time t u d = ⊎_elim (λ h. absurd (d (same_time-path t u h))) (λ h. h) (true-or-false (same_time t u))

-- a time between the first and the last is a signed 64-bit number
pub time-fits : (t : ℤ) → le_z time_least t && le_z t time_most ≡ true → mag t < 2 ^ 63
time-fits (pos n) e = omega (arith, leb-true n (2 ^ 63 - 1) ((and-true true (leb n (2 ^ 63 - 1))).0 e).1)
time-fits (negsuc n) e = omega (arith, leb-true n (2 ^ 63 - 1) ((and-true (leb n (2 ^ 63 - 1)) true).0 e).0)

pub fits-time : (t : ℤ) → mag t < 2 ^ 63 → le_z time_least t && le_z t time_most ≡ true
fits-time (pos n) h = le-leb n (2 ^ 63 - 1) (omega arith)
fits-time (negsuc n) h = rw (le-leb n (2 ^ 63 - 1) (omega arith)) refl

-- ---- keys

-- of two keys the first byte that differs decides
module _ (x y : ℕ) (xs ys : List ℕ) where
  pub byte-before : ltb x y ≡ true → key_before (x ∷ xs) (y ∷ ys) ≡ true
  byte-before h = rw h

  pub rest-before : x ≡ y → key_before xs ys ≡ true → key_before (x ∷ xs) (y ∷ ys) ≡ true
  rest-before e h = rw (e, less-irreflexive y, same_number y, h)

  pub key-cases : key_before (x ∷ xs) (y ∷ ys) ≡ true → (ltb x y ≡ true) ⊎ ((x ≡ y) × (key_before xs ys ≡ true))
  key-cases h = go (ltb x y) refl h
    where
      go : (t : Bool) → ltb x y ≡ t → t || (eqb x y && key_before xs ys) ≡ true → (ltb x y ≡ true) ⊎ ((x ≡ y) × (key_before xs ys ≡ true))
      go true e k = inl e
      go false e k = let (same, rest) = (and-true (eqb x y) (key_before xs ys)).0 k in inr (eqb-true x y same, rest)

pub key-irreflexive : (a : List ℕ) → key_before a a ≡ false
key-irreflexive [] = refl
key-irreflexive (x ∷ xs) = rw (less-irreflexive x, same_number x) (key-irreflexive xs)

pub key-transitive : (a b c : List ℕ) → key_before a b ≡ true → key_before b c ≡ true → key_before a c ≡ true
key-transitive [] [] c h k = cc
key-transitive [] (y ∷ ys) [] h k = k
key-transitive [] (y ∷ ys) (z ∷ zs) h k = refl
key-transitive (x ∷ xs) [] c h k = cc
key-transitive (x ∷ xs) (y ∷ ys) [] h k = k
key-transitive (x ∷ xs) (y ∷ ys) (z ∷ zs) h k =
    ⊎_elim
    (λ p. ⊎_elim (λ q. byte-before x z xs zs (less-transitive x y z p q)) (λ q. byte-before x z xs zs (rw q.0 at p)) (key-cases y z ys zs k))
    (λ p. ⊎_elim
    (λ q. byte-before x z xs zs (rw p.0 q))
    (λ q. rest-before x z xs zs (p.0 ∙ q.0) (key-transitive xs ys zs p.1 q.1))
    (key-cases y z ys zs k))
    (key-cases x y xs ys h)

pub key-total : (a b : List ℕ) → key_before a b ≡ false → key_before b a ≡ false → a ≡ b
key-total [] [] h k = refl
key-total [] (y ∷ ys) h k = cc
key-total (x ∷ xs) [] h k = cc
key-total (x ∷ xs) (y ∷ ys) h k =
    let (p, p') = (or-false (ltb x y) (eqb x y && key_before xs ys)).0 h in
    let (q, q') = (or-false (ltb y x) (eqb y x && key_before ys xs)).0 k in
    let e : x ≡ y = less-total x y p q in
    ap₂ ◌∷◌ e (key-total xs ys (rw (e, same_number y) at p') (rw (e, same_number y) at q'))

pub same_list-refl : (a : List ℕ) → same_list a a ≡ true
same_list-refl [] = refl
same_list-refl (x ∷ xs) = rw (same_number x) (same_list-refl xs)

pub same_list-path : (a b : List ℕ) → same_list a b ≡ true → a ≡ b
same_list-path [] [] h = refl
same_list-path [] (y ∷ ys) h = cc
same_list-path (x ∷ xs) [] h = cc
same_list-path (x ∷ xs) (y ∷ ys) h =
    let (same, rest) = (and-true (eqb x y) (same_list xs ys)).0 h in
    ap₂ ◌∷◌ (eqb-true x y same) (same_list-path xs ys rest)

-- the empty key stands before every other
pub empty-first : (key : List ℕ) → 1 ≤ length key → key_before [] key ≡ true
empty-first [] h = absurd (omega arith)
empty-first (b ∷ bs) h = refl

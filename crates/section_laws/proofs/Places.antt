-- A section gives one refusal only, whose place lies within its bytes, and the place of a section moves only that place.
--   RefusedAs r most a     where a is refused: as r, at most so far
--   Stands r d most a b    a is so refused, and b is a with its refusal d places further
--   only-stands            so a is refused in one way
--   bind-stands, ok-stands, require-stands, varint-stands   steps of a reader
--   read_times-stands, read_integers-stands        a timestamps section, and an integers section
use Prim.Native.Nat.{ℕ, ◌+◌, ◌-◌, ◌/◌, ◌%◌, ◌≤◌, ◌<◌}
use mathlib.Core.Path.{◌≡◌, refl, sym, subst}
use mathlib.Core.Bool.{Bool, true, false, ◌&&◌}
use mathlib.Core.List.{List, [], ◌∷◌}
use native.Mathlib.Nat.{add-zero}
use native.Mathlib.Omega.{arith}
use borrow.Author.Tests.{leb-true}
use lib.IntN.{ℤ}
use lib.Signed.{le_z}
use lib.ListN.{length, take, drop, length-drop}
use lib.Dec.{eqb, leb}
use Rattle.format.specs.declared.Refusal.{Refusal}
use Rattle.format.specs.declared.Refusal.TheVariants.{Timestamps, Values}
use Rattle.format.specs.Limits.{read_block_most, exponent_most, time_most}
use Rattle.format.specs.Choice.{every, is_empty}
use Rattle.format.specs.Bytes.{big_endian}
use Rattle.format.specs.Refusals.{Outcome, ok, refused, ◌>>=◌, require}
use Rattle.format.specs.Signed.{signed}
use Rattle.format.specs.Varint.{read_varint}
use Rattle.format.specs.Simple8b.{words_open}
use Rattle.format.specs.Form.{Form, raw, packed, repeated, unknown, form_of}
use Rattle.format.specs.Timestamps.{read_differences, times_from, times_of, read_times}
use Rattle.format.specs.Integers.{read_stored, read_integers}
use Rattle.format.proofs.Results.{Only, shifted}
use Rattle.numbers.proofs.VarintPlaces.{moved, Placed, read_varint-moved, read_varint-placed}

abbrev pub RefusedAs : {A : Type 0} → Refusal → (most : ℕ) → Outcome A → Type 0
RefusedAs r most (ok a) = Unit {0}
RefusedAs r most (refused q place) = (q ≡ r) × (place ≤ most)

pub record Stands {A : Type 0} (r : Refusal) (d most : ℕ) (a b : Outcome A) : Type 0 where
  pub refusal : RefusedAs r most a
  pub moves : b ≡ shifted d a

pub only-stands : {A : Type 0} {r : Refusal} {d most : ℕ} {a b : Outcome A} → Stands r d most a b → Only r a
only-stands {a = ok x} h = tt
only-stands {a = refused q place} h = h.refusal.0

-- ---- steps of a reader

module _ {A B : Type 0} {r : Refusal} {d most : ℕ} where
  pub bind-stands : {a b : Outcome A} {f g : A → Outcome B} → Stands r d most a b → ((x : A) → Stands r d most (f x) (g x)) → Stands r d most (a >>= f) (b >>= g)
  bind-stands {a = ok x} h k = rw h.moves (k x)
  bind-stands {a = refused q place} h k = rw h.moves (record { refusal = h.refusal; moves = refl })

module _ {B : Type 0} {r : Refusal} {d most : ℕ} where
  pub ok-stands : {b : B} → Stands r d most (ok b) (ok b)
  ok-stands = record { refusal = tt; moves = refl }

  pub require-stands : (t : Bool) (place : ℕ) (f g : Unit {0} → Outcome B) → place ≤ most → (t ≡ true → Stands r d most (f tt) (g tt))
      → Stands r d most (require t r place >>= f) (require t r (place + d) >>= g)
  require-stands true place f g h k = k refl
  require-stands false place f g h k = record { refusal = (refl, h); moves = refl }

  varint-by : (at : ℕ) (bs : List ℕ) (a : Outcome (ℕ × ℕ × List ℕ)) (f g : ℕ × ℕ × List ℕ → Outcome B) → Placed at bs a → at + length bs ≤ most
      → ((v next : ℕ) (rest : List ℕ) → next + length rest ≤ most → Stands r d most (f (v, next, rest)) (g (v, next + d, rest)))
      → Stands r d most (moved r 0 a >>= f) (moved r d a >>= g)
  varint-by at bs (ok v) f g h within k =
      let least : at < v.1 = h.0 in
      let left : length v.2 ≡ length bs - (v.1 - at) = rw h.2 (length-drop (v.1 - at) bs) in
      rw add-zero (k v.0 v.1 v.2 (omega (arith, h.1)))
  varint-by at bs (refused q place) f g h within k = rw add-zero (record { refusal = (refl, omega (arith, h.1)); moves = refl })

  pub varint-stands : (at : ℕ) (bs : List ℕ) (f g : ℕ × ℕ × List ℕ → Outcome B) → at + length bs ≤ most
      → ((v next : ℕ) (rest : List ℕ) → next + length rest ≤ most → Stands r d most (f (v, next, rest)) (g (v, next + d, rest)))
      → Stands r d most (read_varint r at bs >>= f) (read_varint r (at + d) bs >>= g)
  varint-stands at bs f g within k =
      let same : moved r 0 (read_varint r at bs) ≡ read_varint r at bs = sym (rw (add-zero at) at (read_varint-moved r r 0 at bs)) in
      rw (read_varint-moved r r d at bs)
      (subst (λ (a : Outcome (ℕ × ℕ × List ℕ)). Stands r d most (a >>= f) (moved r d (read_varint r at bs) >>= g)) same
      (varint-by at bs (read_varint r at bs) f g (read_varint-placed r at bs) within k))

-- ---- timestamps

module _ (d most section : ℕ) (here : section ≤ most) where
  read_differences-stands : (form : Form) (e at : ℕ) (bs : List ℕ) → at + length bs ≤ most
      → Stands Timestamps d most (read_differences form e section at bs) (read_differences form e (section + d) (at + d) bs)
  unfolding read_differences
  read_differences-stands raw e at bs within =
      require-stands (eqb e 0) section _ _ here (λ _.
      require-stands (eqb (length bs % 8) 0) section _ _ here (λ _. ok-stands))
  read_differences-stands packed e at bs within =
      require-stands (words_open bs) section _ _ here (λ _. ok-stands)
  read_differences-stands repeated e at bs within =
      varint-stands at bs _ _ within (λ x next rest further.
      require-stands (leb 1 x) section _ _ here (λ _.
      varint-stands next rest _ _ further (λ n last left _.
      require-stands (leb 2 n && leb n read_block_most) section _ _ here (λ _.
      require-stands (is_empty left) section _ _ here (λ _. ok-stands)))))
  read_differences-stands unknown e at bs within = record { refusal = (refl, here); moves = refl }

  times_of-stands : (t : ℤ) (ds : List ℕ) → Stands Timestamps d most (times_of section t ds) (times_of (section + d) t ds)
  unfolding times_of
  times_of-stands t ds =
      require-stands (every (leb 1) ds) section _ _ here (λ _.
      require-stands (leb (length ds + 1) read_block_most) section _ _ here (λ _.
      require-stands (every (λ u. le_z u time_most) (times_from t ds)) section _ _ here (λ _. ok-stands)))

pub read_times-stands : (d section : ℕ) (bs : List ℕ) → Stands Timestamps d (section + length bs) (read_times section bs) (read_times (section + d) bs)
unfolding read_times
read_times-stands d section [] = record { refusal = (refl, omega arith); moves = refl }
read_times-stands d section (h ∷ bs) =
    let most = section + length (h ∷ bs) in
    let here : section ≤ most = omega arith in
    let order : section + d + 9 ≡ section + 9 + d = omega arith in
    rw order
    (require-stands (leb (h % 16) exponent_most) section _ _ here (λ _.
    require-stands (leb 8 (length bs)) section _ _ here (λ long.
    bind-stands
    (read_differences-stands d most section here (form_of (h / 16)) (h % 16) (section + 9) (drop 8 bs) (omega (arith, leb-true 8 (length bs) long, length-drop 8 bs)))
    (times_of-stands d most section here (signed (big_endian (take 8 bs)))))))

-- ---- integers

read_stored-stands : (d most section : ℕ) → section ≤ most → (form : Form) (at : ℕ) (bs : List ℕ) → at + length bs ≤ most
    → Stands Values d most (read_stored form section at bs) (read_stored form (section + d) (at + d) bs)
unfolding read_stored
read_stored-stands d most section here raw at bs within =
    require-stands (eqb (length bs % 8) 0) section _ _ here (λ _. ok-stands)
read_stored-stands d most section here packed at bs within =
    require-stands (leb 8 (length bs)) section _ _ here (λ _.
    require-stands (words_open (drop 8 bs)) section _ _ here (λ _. ok-stands))
read_stored-stands d most section here repeated at bs within =
    let order : at + d + 8 ≡ at + 8 + d = omega arith in
    rw order
    (require-stands (leb 8 (length bs)) section _ _ here (λ long.
    varint-stands (at + 8) (drop 8 bs) _ _ (omega (arith, leb-true 8 (length bs) long, length-drop 8 bs)) (λ s next rest further.
    varint-stands next rest _ _ further (λ k last left _.
    require-stands (leb 1 k && leb k (read_block_most - 1)) section _ _ here (λ _.
    require-stands (is_empty left) section _ _ here (λ _. ok-stands))))))
read_stored-stands d most section here unknown at bs within = record { refusal = (refl, here); moves = refl }

pub read_integers-stands : (d n section : ℕ) (bs : List ℕ) → Stands Values d (section + length bs) (read_integers n section bs) (read_integers n (section + d) bs)
unfolding read_integers
read_integers-stands d n section [] = record { refusal = (refl, omega arith); moves = refl }
read_integers-stands d n section (h ∷ bs) =
    let most = section + length (h ∷ bs) in
    let here : section ≤ most = omega arith in
    let order : section + d + 1 ≡ section + 1 + d = omega arith in
    rw order
    (require-stands (eqb (h % 16) 0) section _ _ here (λ _.
    bind-stands
    (read_stored-stands d most section here (form_of (h / 16)) (section + 1) bs (omega arith)) (λ ss.
    require-stands (eqb (length ss) n) section _ _ here (λ _. ok-stands))))

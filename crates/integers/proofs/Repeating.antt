-- What a section's reader answers in form 2: the first number, then two varints, of a number and of how often it is repeated, and nothing after them.
--   repeated-short, repeated-broken, repeated-broken-count   bytes are missing, or a varint is broken
--   Stated                        what the two varints state
--   repeated-all, repeated-none   the stored numbers, by the test of the count
use Prim.Native.Nat.{ℕ, ◌+◌, ◌-◌, ◌≤◌, ◌<◌}
use mathlib.Core.Path.{◌≡◌, refl, ◌∙◌}
use mathlib.Core.Bool.{Bool, true, false, ◌&&◌}
use mathlib.Core.Logic.{⊎_elim}
use mathlib.Core.List.{List, ◌∷◌}
use native.Mathlib.Omega.{arith}
use lib.ListN.{length, take, drop, replicate, length-drop, length-replicate}
use lib.Seq.{drop-drop, drop-length}
use lib.Dec.{eqb, leb}
use borrow.Author.Tests.{eq-eqb, ne_eqb, eqb-true, lt-leb}
use Rattle.format.specs.declared.Refusal.TheVariants.{Values}
use Rattle.format.specs.Limits.{read_block_most}
use Rattle.std.specs.Prelude.{if◌then◌else◌}
use Rattle.format.specs.Choice.{is_empty}
use Rattle.format.specs.Refusals.{ok, refused, ◌>>=◌, require}
use Rattle.format.specs.Bytes.{big_endian}
use Rattle.format.specs.Varint.{read_varint}
use Rattle.format.specs.Form.{repeated}
use Rattle.format.specs.Integers.{read_stored}
use Rattle.numbers.specs.VarintAt.{varint_at, number, broken as broken_at}
use Rattle.numbers.proofs.VarintPlaces.{read_varint-at}
use Rattle.integers.specs.Section.{stored_of, count_fits}
use Rattle.format.proofs.Lists.{not-empty}
use Rattle.format.proofs.Tests.{both_right}
use Rattle.format.proofs.Cases.{same_or}
use Rattle.integers.proofs.Reading.{broken, eight-there}

module _ (n : ℕ) (s : List ℕ) where
  pub repeated-short : length s < 9 → stored_of repeated n (drop 1 s) ≡ refused Values 0
  unfolding read_stored
  repeated-short short =
      broken n repeated (drop 1 s) 0 (rw (lt-leb 8 (length (drop 1 s)) (omega (arith, length-drop 1 s))))

  module _ (long : 9 ≤ length s) where
    pub repeated-broken : (place : ℕ) → varint_at s 9 ≡ broken_at place → stored_of repeated n (drop 1 s) ≡ refused Values place
    unfolding read_stored
    repeated-broken place e =
        let read : read_varint Values 9 (drop 9 s) ≡ refused Values place = rw e at (read_varint-at s 9 long Values) in
        broken n repeated (drop 1 s) place (rw (eight-there n s long, drop-drop 8 1 s, read))

    module _ (v next : ℕ) (first : varint_at s 9 ≡ number v next) (inside : next ≤ length s) where
      pub repeated-broken-count : (place : ℕ) → varint_at s next ≡ broken_at place → stored_of repeated n (drop 1 s) ≡ refused Values place
      unfolding read_stored
      repeated-broken-count place e =
          let read : read_varint Values 9 (drop 9 s) ≡ ok (v, next, drop next s) = rw first at (read_varint-at s 9 long Values) in
          let count : read_varint Values next (drop next s) ≡ refused Values place = rw e at (read_varint-at s next inside Values) in
          broken n repeated (drop 1 s) place (rw (eight-there n s long, drop-drop 8 1 s, read, count))

-- what the two varints of form 2 state: a number v, k times, up to place `end`
pub record Stated (s : List ℕ) (v k end : ℕ) : Type 0 where
  pub next : ℕ
  pub long : 9 ≤ length s
  pub first : varint_at s 9 ≡ number v next
  pub inside : next ≤ length s
  pub second : varint_at s next ≡ number k end
  pub within : end ≤ length s

-- three tests that refuse alike, the last one of the count
by-count-of : (a b : Bool) (n : ℕ) (ss : List ℕ) (m : ℕ) → length ss ≡ m
    → (require a Values 0 >>= (λ _. require b Values 0 >>= (λ _. ok ss))) >>= (λ xs. require (eqb (length xs) n) Values 0 >>= (λ _. ok xs))
    ≡ (if a && (b && eqb m n) then ok ss else refused Values 0)
by-count-of true true n ss m e = rw e (last (eqb m n))
  where
    last : (c : Bool) → require c Values 0 >>= (λ _. ok ss) ≡ (if c then ok ss else refused Values 0)
    last true = refl
    last false = refl
by-count-of true false n ss m e = refl
by-count-of false b n ss m e = refl

used-up : (s : List ℕ) (end : ℕ) → end ≤ length s → is_empty (drop end s) ≡ eqb end (length s)
used-up s end within =
    ⊎_elim (λ (e : end ≡ length s). rw (e, drop-length s, eq-eqb (length s) (length s) refl))
    (λ (n : end ≡ length s → ⊥). rw (ne_eqb end (length s) n) (not-empty (drop end s) (omega (arith, length-drop end s, n))))
    (same_or end (length s))

repeated-is : (n : ℕ) (s : List ℕ) (v k end : ℕ) → Stated s v k end
    → stored_of repeated n (drop 1 s) ≡ (if count_fits k end (length s) n then ok (big_endian (take 8 (drop 1 s)) ∷ replicate k v) else refused Values 0)
unfolding stored_of read_stored
repeated-is n s v k end r =
    let first = big_endian (take 8 (drop 1 s)) in
    let read : read_varint Values 9 (drop 9 s) ≡ ok (v, r.next, drop r.next s) = rw r.first at (read_varint-at s 9 r.long Values) in
    let count : read_varint Values r.next (drop r.next s) ≡ ok (k, end, drop end s) = rw r.second at (read_varint-at s r.next r.inside Values) in
    let many : length (first ∷ replicate k v) ≡ k + 1 = omega (arith, length-replicate k v) in
    rw (eight-there n s r.long, drop-drop 8 1 s, read, count, used-up s end r.within)
    (by-count-of (leb 1 k && leb k (read_block_most - 1)) (eqb end (length s)) n (first ∷ replicate k v) (k + 1) many)

-- by the test of the count
pub repeated-all : (n : ℕ) (s : List ℕ) (v k end : ℕ) → Stated s v k end → count_fits k end (length s) n ≡ true
    → (stored_of repeated n (drop 1 s) ≡ ok (big_endian (take 8 (drop 1 s)) ∷ replicate (n - 1) v)) × (9 ≤ length s) × (1 ≤ n)
repeated-all n s v k end r e =
    let count : k + 1 ≡ n = eqb-true (k + 1) n (both_right (eqb end (length s)) (eqb (k + 1) n) (both_right (leb 1 k && leb k (read_block_most - 1)) _ e)) in
    let before : k ≡ n - 1 = omega arith in
    (repeated-is n s v k end r ∙ rw (e, before), r.long, omega arith)

pub repeated-none : (n : ℕ) (s : List ℕ) (v k end : ℕ) → Stated s v k end → count_fits k end (length s) n ≡ false
    → stored_of repeated n (drop 1 s) ≡ refused Values 0
repeated-none n s v k end r e = repeated-is n s v k end r ∙ rw e

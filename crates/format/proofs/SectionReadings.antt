-- What was read of a section without a refusal, taken apart.
--   TimesParts, times-parts            times, of the first one and the differences
--   TimesOpened, times-opened          a timestamps section: its head, its differences and its times
--   raw-parts, packed-parts            differences, in form 0 and in form 1
--   RepeatedParts, repeated-parts      differences, in form 2: two varints and nothing after them
--   IntegersOpened, integers-opened    an integers section: its head, its stored numbers and its values
use Prim.Native.Nat.{ℕ, ◌+◌, ◌-◌, ◌*◌, ◌/◌, ◌%◌, ◌^◌, ◌≤◌}
use mathlib.Core.Path.{◌≡◌, refl, sym}
use mathlib.Core.Bool.{true, ◌&&◌}
use mathlib.Core.List.{List, [], ◌∷◌, map}
use native.Mathlib.Omega.{arith}
use lib.IntN.{ℤ}
use lib.Signed.{le_z}
use lib.ListN.{length, take, drop, get_or, replicate}
use lib.Dec.{eqb, leb}
use borrow.Author.Tests.{leb-true, eqb-true}
use Rattle.format.specs.declared.Refusal.TheVariants.{Timestamps, Values}
use Rattle.format.specs.Limits.{read_block_most, exponent_most, time_most}
use Rattle.format.specs.Choice.{every, is_empty}
use Rattle.format.specs.Refusals.{ok}
use Rattle.format.specs.Bytes.{big_endian, words}
use Rattle.format.specs.Signed.{signed}
use Rattle.format.specs.Varint.{read_varint}
use Rattle.format.specs.Simple8b.{words_open, words_numbers}
use Rattle.format.specs.Form.{raw, packed, repeated, form_of}
use Rattle.format.specs.Timestamps.{read_differences, times_from, times_of, read_times}
use Rattle.format.specs.Integers.{values_from, read_stored, read_integers}
use Rattle.format.proofs.Tests.{both_left, both_right}
use Rattle.format.proofs.Results.{refused-not, bind_ok, require-ok, ok-path}

-- ---- timestamps

pub record TimesParts (t : ℤ) (ds : List ℕ) (ts : List ℤ) : Type 0 where
  pub least : every (leb 1) ds ≡ true
  pub few : length ds + 1 ≤ read_block_most
  pub most : every (λ u. le_z u time_most) (times_from t ds) ≡ true
  pub are : ts ≡ times_from t ds

pub times-parts : (section : ℕ) (t : ℤ) (ds : List ℕ) (ts : List ℤ) → times_of section t ds ≡ ok ts → TimesParts t ds ts
unfolding times_of
times-parts section t ds ts e =
    let a = require-ok (every (leb 1) ds) Timestamps section _ ts e in
    let b = require-ok (leb (length ds + 1) read_block_most) Timestamps section _ ts a.1 in
    let c = require-ok (every (λ u. le_z u time_most) (times_from t ds)) Timestamps section _ ts b.1 in
    record { least = a.0; few = leb-true (length ds + 1) read_block_most b.0; most = c.0; are = sym (ok-path c.1) }

pub record TimesOpened (section : ℕ) (bs : List ℕ) (ts : List ℤ) : Type 0 where
  pub head : bs ≡ get_or bs 0 0 ∷ drop 1 bs
  pub long : 9 ≤ length bs
  pub exponent : get_or bs 0 0 % 16 ≤ exponent_most
  pub differences : List ℕ
  pub found : read_differences (form_of (get_or bs 0 0 / 16)) (get_or bs 0 0 % 16) section (section + 9) (drop 9 bs) ≡ ok differences
  pub times : TimesParts (signed (big_endian (take 8 (drop 1 bs)))) differences ts

pub times-opened : (section : ℕ) (bs : List ℕ) (ts : List ℤ) → read_times section bs ≡ ok ts → TimesOpened section bs ts
unfolding read_times
times-opened section [] ts e = refused-not e
times-opened section (h ∷ bs) ts e =
    let a = require-ok (leb (h % 16) exponent_most) Timestamps section _ ts e in
    let b = require-ok (leb 8 (length bs)) Timestamps section _ ts a.1 in
    let c = bind_ok (read_differences (form_of (h / 16)) (h % 16) section (section + 9) (drop 8 bs)) _ ts b.1 in
    record {
      head = refl;
      long = omega (arith, leb-true 8 (length bs) b.0);
      exponent = leb-true (h % 16) exponent_most a.0;
      differences = c.0;
      found = c.1;
      times = times-parts section (signed (big_endian (take 8 bs))) c.0 ts c.2;
    }

-- ---- differences, by form

pub record RepeatedParts (e at : ℕ) (bs ds : List ℕ) : Type 0 where
  pub first : ℕ × ℕ × List ℕ
  pub second : ℕ × ℕ × List ℕ
  pub first_read : read_varint Timestamps at bs ≡ ok first
  pub second-read : read_varint Timestamps first.1 first.2 ≡ ok second
  pub many : 2 ≤ second.0
  pub few : second.0 ≤ read_block_most
  pub end : is_empty second.2 ≡ true
  pub are : ds ≡ replicate (second.0 - 1) (first.0 * 10 ^ e)

module _ (e section at : ℕ) (bs ds : List ℕ) where
  pub raw-parts : read_differences raw e section at bs ≡ ok ds → (e ≡ 0) × (length bs % 8 ≡ 0) × (ds ≡ words bs)
  unfolding read_differences
  raw-parts r =
      let a = require-ok (eqb e 0) Timestamps section _ ds r in
      let b = require-ok (eqb (length bs % 8) 0) Timestamps section _ ds a.1 in
      (eqb-true e 0 a.0, eqb-true (length bs % 8) 0 b.0, sym (ok-path b.1))

  pub packed-parts : read_differences packed e section at bs ≡ ok ds → (words_open bs ≡ true) × (ds ≡ map (λ d. d * 10 ^ e) (words_numbers bs))
  unfolding read_differences
  packed-parts r = let a = require-ok (words_open bs) Timestamps section _ ds r in (a.0, sym (ok-path a.1))

  pub repeated-parts : read_differences repeated e section at bs ≡ ok ds → RepeatedParts e at bs ds
  unfolding read_differences
  repeated-parts r =
      let (v, first, a) = bind_ok (read_varint Timestamps at bs) _ ds r in
      let b = require-ok (leb 1 v.0) Timestamps section _ ds a in
      let (w, second, c) = bind_ok (read_varint Timestamps v.1 v.2) _ ds b.1 in
      let f = require-ok (leb 2 w.0 && leb w.0 read_block_most) Timestamps section _ ds c in
      let g = require-ok (is_empty w.2) Timestamps section _ ds f.1 in
      record {
        first = v;
        second = w;
        first_read = first;
        second-read = second;
        many = leb-true 2 w.0 (both_left (leb 2 w.0) (leb w.0 read_block_most) f.0);
        few = leb-true w.0 read_block_most (both_right (leb 2 w.0) (leb w.0 read_block_most) f.0);
        end = g.0;
        are = sym (ok-path g.1);
      }

-- ---- integers

pub record IntegersOpened (n section : ℕ) (bs vs : List ℕ) : Type 0 where
  pub head : bs ≡ get_or bs 0 0 ∷ drop 1 bs
  pub low : get_or bs 0 0 % 16 ≡ 0
  pub stored : List ℕ
  pub found : read_stored (form_of (get_or bs 0 0 / 16)) section (section + 1) (drop 1 bs) ≡ ok stored
  pub count : length stored ≡ n
  pub values : vs ≡ values_from 0 stored

pub integers-opened : (n section : ℕ) (bs vs : List ℕ) → read_integers n section bs ≡ ok vs → IntegersOpened n section bs vs
unfolding read_integers
integers-opened n section [] vs e = refused-not e
integers-opened n section (h ∷ bs) vs e =
    let a = require-ok (eqb (h % 16) 0) Values section _ vs e in
    let b = bind_ok (read_stored (form_of (h / 16)) section (section + 1) bs) _ vs a.1 in
    let c = require-ok (eqb (length b.0) n) Values section _ vs b.2 in
    record {
      head = refl;
      low = eqb-true (h % 16) 0 a.0;
      stored = b.0;
      found = b.1;
      count = eqb-true (length b.0) n c.0;
      values = sym (ok-path c.1);
    }

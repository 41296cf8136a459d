-- How many times a good section has, by its form.
--   Good, times-good                                a section that is read: its head, and its differences
--   raw-count                                       form 0: by its length
--   packed-known, packed-few, packed-count          form 1: by its words
--   first-known, second-known, repeated-count       form 2: by its second varint
use mathlib.Core.Path.{◌≡◌, sym, ap, ◌∙◌}
use mathlib.Core.Bool.{true}
use mathlib.Core.List.{List}
use mathlib.Core.Logic.{◌⊎◌, inl, inr}
use Prim.Native.Nat.{ℕ, ◌+◌, ◌-◌, ◌*◌, ◌/◌, ◌%◌, ◌^◌, ◌≤◌, ◌<◌}
use native.Mathlib.Omega.{arith}
use borrow.Author.Tests.{eqb-true, ne_eqb}
use lib.ListN.{length, take, drop, get_or, length-map, length-drop, length-replicate}
use Rattle.format.specs.declared.Refusal.TheVariants.{Timestamps}
use Rattle.format.specs.Limits.{read_block_most}
use Rattle.format.specs.Refusals.{ok, is_ok}
use Rattle.format.specs.Bytes.{big_endian}
use Rattle.format.specs.Signed.{signed}
use Rattle.format.specs.Varint.{read_varint}
use Rattle.format.specs.Simple8b.{words_open, words_numbers}
use Rattle.format.specs.Form.{repeated, unknown, form_of}
use Rattle.format.specs.Timestamps.{read_differences, read_times}
use Rattle.format.proofs.Results.{refused-not, ok-path, ok_of}
use Rattle.format.proofs.SectionReadings.{times-opened, raw-parts, packed-parts, RepeatedParts, repeated-parts}
use Rattle.format.proofs.Cases.{same_or}
use Rattle.format.proofs.Tests.{both_left}
use Rattle.section_laws.proofs.Differences.{times_from-length}
use Rattle.section_laws.proofs.WordsOfBytes.{words-length}
use Rattle.numbers.specs.VarintAt.{varint_at, number, broken}
use Rattle.numbers.proofs.VarintPlaces.{read_varint-at}
use Rattle.std.specs.Prelude.{Result, Ok}
use Rattle.format.specs.declared.Broken.{Broken}
use Rattle.timestamps.specs.Reading.{times_answer}

-- a section that is read, by its head and its differences
pub record Good (s : List ℕ) : Type 0 where
  pub long : 9 ≤ length s
  pub differences : List ℕ
  pub found : read_differences (form_of (get_or s 0 0 / 16)) (get_or s 0 0 % 16) 0 9 (drop 9 s) ≡ ok differences
  pub few : length differences + 1 ≤ read_block_most
  pub count : times_answer (read_times 0 s) ≡ Ok (length differences + 1)

pub times-good : (s : List ℕ) → is_ok (read_times 0 s) ≡ true → Good s
times-good s h =
    let (ts, e) = ok_of (read_times 0 s) h in
    let o = times-opened 0 s ts e in
    let many = times_from-length (signed (big_endian (take 8 (drop 1 s)))) o.differences in
    record {
      long = o.long;
      differences = o.differences;
      found = o.found;
      few = o.times.few;
      count = ap times_answer e ∙ ap {B = Result ℕ Broken} Ok (ap length o.times.are ∙ many);
    }

-- ---- how many differences, by form

open-whole : (bs : List ℕ) → words_open bs ≡ true → length bs % 8 ≡ 0
unfolding words_open
open-whole bs h = eqb-true (length bs % 8) 0 (both_left _ _ h)

none-unknown : (e : ℕ) (bs ds : List ℕ) → read_differences unknown e 0 9 bs ≡ ok ds → read_differences repeated e 0 9 bs ≡ ok ds
unfolding read_differences
none-unknown e bs ds r = refused-not r

form-by : (form e : ℕ) (bs ds : List ℕ) → (form ≡ 0 → ⊥) → (form ≡ 1 → ⊥) → read_differences (form_of form) e 0 9 bs ≡ ok ds → (form ≡ 2) ⊎ (form ≡ 2 → ⊥)
    → read_differences repeated e 0 9 bs ≡ ok ds
form-by form e bs ds n m r (inl z) = rw z at r
form-by form e bs ds n m r (inr k) = none-unknown e bs ds (rw (ne_eqb form 0 n, ne_eqb form 1 m, ne_eqb form 2 k) at r)

-- ---- the section

module _ (s : List ℕ) (good : Good s) where
  abbrev form : ℕ
  form = get_or s 0 0 / 16

  abbrev e : ℕ
  e = get_or s 0 0 % 16

  abbrev ds : List ℕ
  ds = good.differences

  pub raw-count : form ≡ 0 → Ok ((length s - 9) / 8 + 1) ≡ times_answer (read_times 0 s)
  raw-count z =
      let p = raw-parts e 0 9 (drop 9 s) ds (rw z at good.found) in
      ap {B = Result ℕ Broken} Ok (omega (arith, ap length p.2, words-length (drop 9 s), length-drop 9 s)) ∙ sym good.count

  module _ (z : form ≡ 1) where
    many-packed : (length (drop 9 s) % 8 ≡ 0) × (length ds ≡ length (words_numbers (drop 9 s)))
    many-packed =
        let (opens, are) = packed-parts e 0 9 (drop 9 s) ds (rw z at good.found) in
        (open-whole (drop 9 s) opens, ap length are ∙ length-map (words_numbers (drop 9 s)) (λ d. d * 10 ^ e))

    pub packed-known : (9 ≤ length s) × ((length s - 9) % 8 ≡ 0) × (length (words_numbers (drop 9 s)) < 2 ^ 64)
    packed-known = (good.long, omega (arith, many-packed.0, length-drop 9 s), omega (arith, many-packed.1, good.few))

    pub packed-few : length (words_numbers (drop 9 s)) < 1000
    packed-few = omega (arith, many-packed.1, good.few)

    pub packed-count : (n : ℕ) → n ≡ length (words_numbers (drop 9 s)) → Ok (n + 1) ≡ times_answer (read_times 0 s)
    packed-count n c = ap {B = Result ℕ Broken} Ok (omega (arith, c, many-packed.1)) ∙ sym good.count

  module _ (n : form ≡ 0 → ⊥) (m : form ≡ 1 → ⊥) where
    found : RepeatedParts e 9 (drop 9 s) ds
    found = repeated-parts e 0 9 (drop 9 s) ds (form-by form e (drop 9 s) ds n m good.found (same_or form 2))

    pub first-known : (place : ℕ) → varint_at s 9 ≡ broken place → ⊥
    first-known place b = refused-not (rw (read_varint-at s 9 good.long Timestamps, b) at found.first_read)

    module _ (v next : ℕ) (first : varint_at s 9 ≡ number v next) (within : next ≤ length s) where
      second-read : read_varint Timestamps next (drop next s) ≡ ok found.second
      second-read =
          let is : (v, next, drop next s) ≡ found.first = ok-path (rw (read_varint-at s 9 good.long Timestamps, first) at found.first_read) in
          rw (← is) at found.second-read

      pub second-known : (place : ℕ) → varint_at s next ≡ broken place → ⊥
      second-known place b = refused-not (rw (read_varint-at s next within Timestamps, b) at second-read)

      pub repeated-count : (n end : ℕ) → varint_at s next ≡ number n end → Ok n ≡ times_answer (read_times 0 s)
      repeated-count n end second =
          let is : (n, end, drop end s) ≡ found.second = ok-path (rw (read_varint-at s next within Timestamps, second) at second-read) in
          let many : n ≡ found.second.0 = ap (λ (w : ℕ × ℕ × List ℕ). w.0) is in
          let are = ap length found.are ∙ length-replicate (found.second.0 - 1) (found.first.0 * 10 ^ e) in
          ap {B = Result ℕ Broken} Ok (omega (arith, are, found.many)) ∙ sym good.count

-- How long our writer's timestamps and integers sections are, and that they are bytes.
--   times_section-some, times_section-most, times_section-bytes   a byte at least, a bound, bytes
--   integers_section-most, integers_section-bytes                a bound, bytes
--   some-by                                                    a section has a first byte, whatever its form
use Prim.Native.Nat.{ℕ, ◌+◌, ◌*◌, ◌/◌, ◌^◌, ◌≤◌}
use mathlib.Core.Path.{subst}
use mathlib.Core.Bool.{true, false, ◌&&◌, Bool}
use mathlib.Core.List.{List, [], ◌∷◌, ◌++◌, flat_map}
use native.Mathlib.Omega.{arith}
use lib.IntN.{ℤ}
use lib.ListN.{length, get_or, length-map}
use lib.Dec.{leb, lit<}
use borrow.Author.Tests.{leb-true}
use Rattle.format.specs.Limits.{exponent_most, packed_most}
use Rattle.std.specs.Prelude.{if◌then◌else◌}
use Rattle.format.specs.Choice.{every, all_equal}
use Rattle.format.specs.Bytes.{big_bytes, AllBytes}
use Rattle.format.specs.Signed.{pattern}
use Rattle.format.specs.Varint.{varint}
use Rattle.format.specs.Simple8b.{packed_bytes}
use Rattle.format.specs.Timestamps.{differences_from, exponent, times_with, times_section}
use Rattle.format.proofs.AllBelow.{below-nil, below-cons}
use Rattle.numbers.proofs.TwosComplement.{stored_from-length}
use Rattle.format.proofs.Tests.{both_left}
use Rattle.section_laws.specs.Choices.{repeats, packable, small}
use Rattle.section_laws.proofs.WordsOfBytes.{flat_bytes-length, flat_bytes-bytes}
use Rattle.section_laws.proofs.PackedWords.{packed_bytes-bytes, packed_bytes-most}
use Rattle.section_laws.proofs.Forms.{head-length, head_bytes, varints-bytes, repeating, packing, plain, choice, varints-most}
use Rattle.section_laws.proofs.Differences.{differences_from-length}
use Rattle.section_laws.proofs.Exponents.{exponent-most}
use Rattle.format.specs.Integers.{stored_from, stored_section, integers_section}
use Rattle.section_laws.proofs.Timestamps.{divided, times_with-repeated, times_with-packed, times_with-raw}
use Rattle.section_laws.proofs.Integers.{stored_section-repeated, stored_section-packed, stored_section-raw}

-- ---- timestamps

module _ (e : ℕ) (t : ℤ) (ds : List ℕ) where
  -- the repeated difference, divided, and the count
  abbrev two_times : List ℕ
  two_times = varint (get_or ds 0 0 / 10 ^ e) ++ varint (length ds + 1)

  -- at most 8 bytes for each difference and 21 more
  times_with-length : length (times_with e t ds) ≤ length ds * 8 + 21
  times_with-length =
      elim (choice (repeats 1 ds) (packable e ds)) [
        | repeating same ↦
            rw (times_with-repeated e t ds same)
            (omega (
              arith,
              head-length (pattern t) two_times (2 * 16 + e),
              varints-most (get_or ds 0 0 / 10 ^ e) (length ds + 1),
              leb-true 1 (length ds) (both_left (leb 1 (length ds)) _ same),
            ))
        | packing same small ↦
            rw (times_with-packed e t ds same small)
            (omega (
              arith,
              head-length (pattern t) (packed_bytes (divided e ds)) (1 * 16 + e),
              packed_bytes-most (divided e ds),
              length-map ds (λ d. d / 10 ^ e),
            ))
        | plain same large ↦
            rw (times_with-raw e t ds same large) (omega (arith, head-length (pattern t) (flat_map (big_bytes 8) ds) (0 * 16 + 0), flat_bytes-length 8 ds))
      ]

  times_with-bytes : e ≤ exponent_most → AllBytes (times_with e t ds)
  times_with-bytes most =
      elim (choice (repeats 1 ds) (packable e ds)) [
        | repeating same ↦
            rw (times_with-repeated e t ds same)
            (head_bytes (pattern t) two_times (2 * 16 + e) (omega arith) (varints-bytes (get_or ds 0 0 / 10 ^ e) (length ds + 1)))
        | packing same small ↦
            rw (times_with-packed e t ds same small)
            (head_bytes (pattern t) (packed_bytes (divided e ds)) (1 * 16 + e) (omega arith) (packed_bytes-bytes (divided e ds)))
        | plain same large ↦
            rw (times_with-raw e t ds same large) (head_bytes (pattern t) (flat_map (big_bytes 8) ds) (0 * 16 + 0) (omega arith) (flat_bytes-bytes 8 ds))
      ]

-- a section has a first byte, whatever its form
pub some-by : (a b : Bool) (h i j : ℕ) (x y z : List ℕ) → 1 ≤ length (if a then h ∷ x else if b then i ∷ y else j ∷ z)
some-by true b h i j x y z = omega arith
some-by false true h i j x y z = omega arith
some-by false false h i j x y z = omega arith

pub times_section-some : (ts : List ℤ) → 1 ≤ length ts → 1 ≤ length (times_section ts)
unfolding times_section times_with
times_section-some [] some = absurd (omega arith)
times_section-some (t ∷ ts) some =
    let ds = differences_from t ts in
    let e = exponent exponent_most ds in
    some-by (leb 1 (length ds) && all_equal ds) (every (λ d. leb (d / 10 ^ e) packed_most) ds) _ _ _ _ _ _

pub times_section-most : (ts : List ℤ) → 1 ≤ length ts → length (times_section ts) ≤ length ts * 8 + 13
unfolding times_section
times_section-most [] some = absurd (omega arith)
times_section-most (t ∷ ts) some =
    omega (arith, differences_from-length t ts, times_with-length (exponent exponent_most (differences_from t ts)) t (differences_from t ts))

pub times_section-bytes : (ts : List ℤ) → AllBytes (times_section ts)
unfolding times_section
times_section-bytes [] = below-nil 256 (lit< tt)
times_section-bytes (t ∷ ts) =
    times_with-bytes (exponent exponent_most (differences_from t ts)) t (differences_from t ts) (exponent-most (differences_from t ts) exponent_most)

-- ---- integers

module _ (s : ℕ) (ss : List ℕ) where
  -- at most 8 bytes for each number and 5 more
  stored_section-length : length (stored_section (s ∷ ss)) ≤ length (s ∷ ss) * 8 + 5
  stored_section-length =
      elim (choice (repeats 2 ss) (small (s ∷ ss))) [
        | repeating same ↦
            rw (stored_section-repeated s ss same)
            (omega (
              arith,
              head-length s (varint (get_or ss 0 0) ++ varint (length ss)) 0x20,
              varints-most (get_or ss 0 0) (length ss),
              leb-true 2 (length ss) (both_left (leb 2 (length ss)) _ same),
            ))
        | packing same small ↦
            rw (stored_section-packed s ss same small) (omega (arith, head-length s (packed_bytes ss) 0x10, packed_bytes-most ss))
        | plain same large ↦ rw (stored_section-raw s ss same large) (omega (arith, flat_bytes-length 8 (s ∷ ss)))
      ]

  stored_section-bytes : AllBytes (stored_section (s ∷ ss))
  stored_section-bytes =
      elim (choice (repeats 2 ss) (small (s ∷ ss))) [
        | repeating same ↦
            rw (stored_section-repeated s ss same)
            (head_bytes s (varint (get_or ss 0 0) ++ varint (length ss)) 0x20 (lit< tt) (varints-bytes (get_or ss 0 0) (length ss)))
        | packing same small ↦ rw (stored_section-packed s ss same small) (head_bytes s (packed_bytes ss) 0x10 (lit< tt) (packed_bytes-bytes ss))
        | plain same large ↦
            rw (stored_section-raw s ss same large) (below-cons 256 0 (flat_map (big_bytes 8) (s ∷ ss)) (lit< tt) (flat_bytes-bytes 8 (s ∷ ss)))
      ]

pub integers_section-most : (vs : List ℕ) → 1 ≤ length vs → length (integers_section vs) ≤ length vs * 8 + 5
integers_section-most [] some = absurd (omega arith)
integers_section-most (v ∷ vs) some =
    subst (λ (n : ℕ). length (integers_section (v ∷ vs)) ≤ n * 8 + 5) (stored_from-length 0 (v ∷ vs)) (stored_section-length _ (stored_from v vs))

pub integers_section-bytes : (vs : List ℕ) → 1 ≤ length vs → AllBytes (integers_section vs)
integers_section-bytes [] some = absurd (omega arith)
integers_section-bytes (v ∷ vs) some = stored_section-bytes _ (stored_from v vs)

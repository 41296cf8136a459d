-- Which form our writer takes, by the numbers of a section. Timestamps: "form 2 when n ≥ 2 and all differences are equal; else form 1 when every
-- divided difference is" at most 2^60 − 1; "else form 0". Integers: "form 2 for n ≥ 3 with equal differences; else form 1 when all n stored
-- numbers are" at most 2^60 − 1; "else form 0". (Document 01 says "below"; request 3: "It becomes 'at most 2^60 − 1' for timestamps and
-- integers alike".)
--   form_number section        the form that a section states: the high four bits of its first byte (15 of no bytes)
--   Alike least xs            so many numbers at least, all of them equal
--   LargestExponent ds e      e, "0 to 12", is "largest so that 10^e divides every difference"
--   FormBy same small section   form 2 where the numbers are the same, else form 1 where they are small, else form 0
use Rattle.std.specs.Prelude.{ℕ, ◌-◌, ◌/◌, ◌%◌, ◌^◌, ◌≤◌, ◌<◌, ◌≡◌, ◌↔◌, true, length, get_or, ℤ}
use mathlib.Core.List.{List, ◌∷◌, ◌++◌, flat_map}
use Rattle.std.specs.Int.Signed.{lt_z}
use Rattle.format.specs.Limits.{read_block_most, exponent_most}
use Rattle.format.specs.Choice.{ascends, Each}
use Rattle.format.specs.Refusals.{ok}
use Rattle.format.specs.Bytes.{big_bytes}
use Rattle.format.specs.Signed.{pattern}
use Rattle.format.specs.Timestamps.{differences_from, read_times, times_section}
use Rattle.format.specs.Integers.{stored_from, stored, read_integers, integers_section}
use Rattle.acceptance.specs.Sections.{Signed64}

abbrev pub form_number : List ℕ → ℕ
form_number section = get_or section 0 0xFF / 16

abbrev pub Alike : (least : ℕ) → List ℕ → Type 0
Alike least xs = (least ≤ length xs) × ((x : ℕ) × Each (λ y. x ≡ y) xs)

pub record LargestExponent (ds : List ℕ) (e : ℕ) : Type 0 where
  pub most : e ≤ exponent_most
  pub divides : Each (λ d. d % 10 ^ e ≡ 0) ds
  pub largest : (k : ℕ) → k ≤ exponent_most → Each (λ d. d % 10 ^ k ≡ 0) ds → k ≤ e

pub record FormBy (same small : Type 0) (section : List ℕ) : Type 0 where
  pub repeated : (form_number section ≡ 2) ↔ same
  pub packed : (form_number section ≡ 1) ↔ ((¬ same) × small)
  pub raw : (form_number section ≡ 0) ↔ ((¬ same) × (¬ small))

-- Not met by a writer that spreads the largest number of sixty bits raw, nor by one that packs a larger.
pub record WriterForms : Type 0 where
  -- every list of differences has such an e
  pub exponent : (ds : List ℕ) → (e : ℕ) × LargestExponent ds e
  pub times : (t : ℤ) (ts : List ℤ) (e : ℕ) → LargestExponent (differences_from t ts) e
      → FormBy (Alike 1 (differences_from t ts)) (Each (λ d. d / 10 ^ e ≤ 2 ^ 60 - 1) (differences_from t ts)) (times_section (t ∷ ts))
  pub integers : (v : ℕ) (vs : List ℕ)
      → FormBy (Alike 2 (stored_from v vs)) (Each (λ s. s ≤ 2 ^ 60 - 1) (stored (v ∷ vs))) (integers_section (v ∷ vs))
  -- "What is accepted does not move. Files written before read as ever": numbers that are spread raw are read, whether or not they could be packed
  pub spread_times : (section : ℕ) (t : ℤ) (ts : List ℤ) → length (t ∷ ts) ≤ read_block_most → ascends lt_z (t ∷ ts) ≡ true → Each Signed64 (t ∷ ts)
      → read_times section (0x00 ∷ (big_bytes 8 (pattern t) ++ flat_map (big_bytes 8) (differences_from t ts))) ≡ ok (t ∷ ts)
  pub spread_integers : (section : ℕ) (vs : List ℕ) → Each (λ v. v < 2 ^ 64) vs
      → read_integers (length vs) section (0x00 ∷ flat_map (big_bytes 8) (stored vs)) ≡ ok vs

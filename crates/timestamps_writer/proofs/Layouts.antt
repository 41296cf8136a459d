-- Our writer's section by its layout: the head, and the numbers that stand in the cells.
--   every-mapped                     numbers that were divided
--   differences-length, section-is   a section by its differences
--   layout-bytes, section-length     the bytes of a section, by layout, and how many
--   layable, head-fits               numbers that are laid out can be laid
--   rest-most                        a bound
--   lay-section                      the head and then the rest are laid as one
--   part_length, lay-part            a section after its length
use mathlib.Core.Path.{◌≡◌, refl, sym, ap, ◌∙◌}
use mathlib.Core.Bool.{Bool, true, ◌&&◌}
use mathlib.Core.List.{List, [], ◌∷◌, ◌++◌, map, flat_map}
use Prim.Native.Nat.{ℕ, ◌+◌, ◌*◌, ◌/◌, ◌^◌, ◌≤◌, ◌<◌}
use native.Mathlib.Omega.{arith}
use borrow.Author.Tests.{leb-true}
use lib.Dec.{leb}
use lib.IntN.{ℤ, pos}
use lib.ListN.{length, get_or, length-append}
use Rattle.format.specs.Choice.{every, all_equal}
use Rattle.format.specs.Bytes.{big_bytes, splice}
use Rattle.format.specs.Signed.{pattern}
use Rattle.format.specs.Varint.{varint}
use Rattle.format.specs.Simple8b.{packed_bytes}
use Rattle.format.specs.Timestamps.{exponent, times_head, times_with, times_section}
use Rattle.numbers.proofs.BigEndian.{big_bytes-length}
use Rattle.format.proofs.Splices.{laid-two}
use Rattle.format.proofs.Tests.{both_left}
use Rattle.section_laws.specs.Choices.{packable}
use Rattle.numbers.proofs.Varints.{varint-length-most}
use Rattle.section_laws.proofs.WordsOfBytes.{flat_bytes-length}
use Rattle.section_laws.proofs.PackedWords.{packed_bytes-most}
use Rattle.section_laws.proofs.Forms.{head-length, packable-fits}
use Rattle.section_laws.proofs.Differences.{differences_from-length}
use Rattle.section_laws.proofs.Exponents.{exponent-most}
use Rattle.section_laws.proofs.Timestamps.{times_with-repeated, times_with-packed, times_with-raw}
use Rattle.timestamps_writer.specs.declared.Layout.{Layout}
use Rattle.timestamps_writer.specs.declared.Layout.TheVariants.{Repeated, Packed, Raw}
use Rattle.timestamps_writer.specs.Writing.{differences_of, LaidOut, Layable, layout_head, layout_rest, times_part}

-- ---- numbers that were divided

pub every-mapped : (p : ℕ → Bool) (f : ℕ → ℕ) (xs : List ℕ) → every p (map f xs) ≡ every (λ x. p (f x)) xs
every-mapped p f [] = refl
every-mapped p f (x ∷ xs) = ap (λ (b : Bool). p (f x) && b) (every-mapped p f xs)

-- ---- the section of some times

pub differences-length : (ts : List ℤ) → 1 ≤ length ts → length (differences_of ts) + 1 ≡ length ts
differences-length [] h = absurd (omega arith)
differences-length (t ∷ ts) h = omega (arith, differences_from-length t ts)

section-is : (ts : List ℤ) → 1 ≤ length ts → times_section ts ≡ times_with (exponent 12 (differences_of ts)) (get_or ts 0 (pos 0)) (differences_of ts)
unfolding times_section
section-is [] h = absurd (omega arith)
section-is (t ∷ ts) h = refl

module _ (ts : List ℤ) (some : 1 ≤ length ts) (numbers : List ℕ) where
  abbrev first : ℤ
  first = get_or ts 0 (pos 0)

  -- the bytes of a section, by its layout
  pub layout-bytes : (l : Layout) → LaidOut l (differences_of ts) numbers → times_section ts ≡ (layout_head l ∷ big_bytes 8 (pattern (get_or ts 0 (pos 0)))) ++ layout_rest l numbers
  layout-bytes (Repeated e) l =
      section-is ts some
      ∙ ap (λ (k : ℕ). times_with k first (differences_of ts)) (sym l.1)
      ∙ times_with-repeated e first (differences_of ts) l.0
      ∙ ap (λ (ds : List ℕ). times_head 2 e first ++ (varint (get_or ds 0 0 / 10 ^ e) ++ varint (length ds + 1))) (sym l.2)
  layout-bytes (Packed e) l =
      section-is ts some
      ∙ times_with-packed (exponent 12 (differences_of ts)) first (differences_of ts) l.0 l.1
      ∙ ap (λ (k : ℕ). times_head 1 k first ++ packed_bytes (map (λ d. d / 10 ^ k) (differences_of ts))) (sym l.2)
      ∙ ap (λ (xs : List ℕ). times_head 1 e first ++ packed_bytes xs) (sym l.3)
  layout-bytes Raw l =
      section-is ts some
      ∙ times_with-raw (exponent 12 (differences_of ts)) first (differences_of ts) l.0 l.1
      ∙ ap (λ (xs : List ℕ). times_head 0 0 first ++ flat_map (big_bytes 8) xs) (sym l.2)

  pub section-length : (l : Layout) → LaidOut l (differences_of ts) numbers → length (times_section ts) ≡ 9 + length (layout_rest l numbers)
  section-length l laid =
      ap length (layout-bytes l laid) ∙ head-length (pattern first) (layout_rest l numbers) (layout_head l)

-- numbers that are laid out can be laid
module _ (ds numbers : List ℕ) where
  pub layable : (l : Layout) → LaidOut l ds numbers → Layable l numbers
  layable (Repeated e) l =
      (omega (arith, l.1, exponent-most ds 12), omega (arith, ap length l.2, leb-true 1 (length ds) (both_left (leb 1 (length ds)) (all_equal ds) l.0)))
  layable (Packed e) l =
      let fits : packable e ds ≡ true = rw l.2 l.1 in (
        omega (arith, l.2, exponent-most ds 12),
        rw l.3 (packable-fits e ds fits),
      )
  layable Raw l = tt

-- the first byte states the form and the exponent
pub head-fits : (l : Layout) (numbers : List ℕ) → Layable l numbers → layout_head l < 256
head-fits (Repeated e) numbers h = omega (arith, h.0)
head-fits (Packed e) numbers h = omega (arith, h.0)
head-fits Raw numbers h = omega arith

-- the head and then the rest are laid as one
pub lay-section : (bs : List ℕ) (head first : ℕ) (rest : List ℕ) → bs ≡ (head ∷ big_bytes 8 first) ++ rest
    → (at : ℕ) (out mid new : List ℕ) → at ≤ length out → mid ≡ splice at (head ∷ big_bytes 8 first) out → new ≡ splice (at + 9) rest mid → new ≡ splice at bs out
lay-section bs head first rest e at out mid new inside one two =
    laid-two at (at + 9) (head ∷ big_bytes 8 first) rest out mid new inside (omega (arith, big_bytes-length 8 first)) one two
    ∙ ap (λ (cs : List ℕ). splice at cs out) (sym e)

-- a bound of what follows the head
pub rest-most : (l : Layout) (numbers : List ℕ) → length (layout_rest l numbers) ≤ length numbers * 8 + 20
rest-most (Repeated e) numbers =
    omega (arith, length-append (varint (get_or numbers 0 0 / 10 ^ e)) (varint (length numbers + 1)), varint-length-most (get_or numbers 0 0 / 10 ^ e), varint-length-most (length numbers + 1))
rest-most (Packed e) numbers = omega (arith, packed_bytes-most numbers)
rest-most Raw numbers = omega (arith, flat_bytes-length 8 numbers)

-- ---- the section after its length

pub part_length : (ts : List ℤ) → length (times_part ts) ≡ length (varint (length (times_section ts))) + length (times_section ts)
unfolding times_part
part_length ts = length-append (varint (length (times_section ts))) (times_section ts)

pub lay-part : (ts : List ℤ) (at next : ℕ) (old mid new : List ℕ) → at ≤ length old → next ≡ at + length (varint (length (times_section ts)))
    → mid ≡ splice at (varint (length (times_section ts))) old → new ≡ splice next (times_section ts) mid → new ≡ splice at (times_part ts) old
unfolding times_part
lay-part ts at next old mid new inside after first second = laid-two at next (varint (length (times_section ts))) (times_section ts) old mid new inside after first second

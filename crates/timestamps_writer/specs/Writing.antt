-- How our writer lays the timestamps section.
--   differences_of   the differences between times
--   undivided_place  the first difference that a scale does not divide
--   LaidOut         the layout that is chosen, and the numbers to lay
--   Layable         numbers that a layout can lay
--   layout_head, layout_rest   the bytes of a layout, but for the first time
--   times_part       the length of a section, and then the section
use Rattle.std.specs.Prelude.{◌≡◌, true, false, ℕ, ◌+◌, ◌*◌, ◌/◌, ◌%◌, ◌^◌, ◌≤◌, ℤ, eqb, length, get_or, not, position, Option}
use mathlib.Core.List.{List, [], ◌∷◌, ◌++◌, map, flat_map}
use Rattle.format.specs.Bytes.{big_bytes}
use Rattle.format.specs.Varint.{varint}
use Rattle.format.specs.Simple8b.{packed_bytes}
use Rattle.format.specs.Timestamps.{differences_from, exponent, times_section}
use Rattle.section_laws.specs.Choices.{repeats, packable}
use Rattle.simple8b.specs.Packs.{packs}
use Rattle.timestamps_writer.specs.declared.Layout.{Layout}
use Rattle.timestamps_writer.specs.declared.Layout.TheVariants.{Repeated, Packed, Raw}

abbrev pub differences_of : List ℤ → List ℕ
differences_of [] = []
differences_of (t ∷ ts) = differences_from t ts

-- the place of the first difference that the scale does not divide
abbrev pub undivided_place : (scale : ℕ) → List ℕ → Option ℕ
undivided_place scale ds = position (λ d. not (eqb (d % scale) 0)) ds

-- the layout of differences, and the numbers to lay
abbrev pub LaidOut : Layout → (ds numbers : List ℕ) → Type 0
LaidOut (Repeated e) ds numbers = (repeats 1 ds ≡ true) × (e ≡ exponent 12 ds) × (numbers ≡ ds)
LaidOut (Packed e) ds numbers = (repeats 1 ds ≡ false) × (packable (exponent 12 ds) ds ≡ true) × (e ≡ exponent 12 ds) × (numbers ≡ map (λ d. d / 10 ^ e) ds)
LaidOut Raw ds numbers = (repeats 1 ds ≡ false) × (packable (exponent 12 ds) ds ≡ false) × (numbers ≡ ds)

-- numbers that a layout can lay
abbrev pub Layable : Layout → (numbers : List ℕ) → Type 0
Layable (Repeated e) numbers = (e ≤ 12) × (1 ≤ length numbers)
Layable (Packed e) numbers = (e ≤ 12) × (packs numbers ≡ true)
Layable Raw numbers = Unit {0}

-- the first byte of a section
abbrev pub layout_head : Layout → ℕ
layout_head (Repeated e) = 2 * 16 + e
layout_head (Packed e) = 1 * 16 + e
layout_head Raw = 0

-- what follows the first byte and the first time
abbrev pub layout_rest : Layout → (numbers : List ℕ) → List ℕ
layout_rest (Repeated e) numbers = varint (get_or numbers 0 0 / 10 ^ e) ++ varint (length numbers + 1)
layout_rest (Packed e) numbers = packed_bytes numbers
layout_rest Raw numbers = flat_map (big_bytes 8) numbers

-- the length of our writer's section, and then the section
unfoldable pub times_part : List ℤ → List ℕ
times_part ts = varint (length (times_section ts)) ++ times_section ts

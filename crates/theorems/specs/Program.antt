-- What the program owes: "A program reads a roll from standard input and writes the image, with one buffer of 65,536 bytes
-- for each; on a refusal it writes only the number, in decimal, and a line feed. A roll longer than its buffer is 19 before
-- it is looked at." For every roll, by what it writes; that it hears the whole roll is a contract of the code.
--   line19, line20, line22   the bytes of a refusal's line: two digits and a line feed
--   Tried roll m             a good roll that the program looks at, with its points
use Rattle.std.specs.Prelude.{ℕ, ◌≤◌, ◌<◌, ◌≡◌, ◌↔◌, ◌≢◌, List, [], ◌∷◌, length, take}
use Rattle.format.specs.Bytes.{AllBytes}
use Rattle.format.specs.Meaning.{Meaning}
use Rattle.format.specs.Writer.{writer_image}
use Rattle.format.specs.Acts.{decimal_line, program_output}
use Rattle.acceptance.specs.Rolls.{KeepsRoll}
use Rattle.theorems.specs.Files.{Accepted, GoodRoll, OurFile, UnrollGives}

abbrev pub line19 : List ℕ
line19 = 0x31 ∷ 0x39 ∷ 0x0A ∷ []

abbrev pub line20 : List ℕ
line20 = 0x32 ∷ 0x30 ∷ 0x0A ∷ []

abbrev pub line22 : List ℕ
line22 = 0x32 ∷ 0x32 ∷ 0x0A ∷ []

pub record Tried (roll : List ℕ) (m : Meaning) : Type 0 where
  pub good : GoodRoll roll m
  pub heard : length roll ≤ 65_536

-- Not met by a program that judges a long roll by its bytes, leaves out the line feed, writes a number besides an image, or
-- writes nothing.
pub record Program : Type 0 where
  -- a roll longer than its buffer is 19, whatever it holds
  pub longer : (roll : List ℕ) → 65_536 < length roll → program_output roll ≡ line19
  -- any other is 20 exactly when it breaks its rules
  pub broken : (roll : List ℕ) → AllBytes roll → length roll ≤ 65_536
      → (program_output roll ≡ line20) ↔ ((m : Meaning) → ¬ KeepsRoll roll m)
  -- a good one is 19 exactly when its image is longer than the image's buffer
  pub short : (roll : List ℕ) (m : Meaning) → Tried roll m
      → (program_output roll ≡ line19) ↔ (65_536 < length (writer_image m))
  -- and its image exactly when that has room
  pub image : (roll : List ℕ) (m : Meaning) → Tried roll m
      → (program_output roll ≡ writer_image m) ↔ (length (writer_image m) ≤ 65_536)
  -- no roll that the program looks at has an image above 1,048,576 bytes: 22 is never told
  pub never22 : (roll : List ℕ) → AllBytes roll → program_output roll ≢ line22
  -- the image is our writer's file of the roll's points, is accepted and means them
  pub accepted : (roll : List ℕ) (m : Meaning) → Tried roll m → length (writer_image m) ≤ 65_536
      → OurFile (program_output roll) m × Accepted (program_output roll) m
  -- unrolled, into any buffer that has room, it is the roll again
  pub again : (roll lent : List ℕ) (m : Meaning) → Tried roll m → length (writer_image m) ≤ 65_536 → length roll ≤ length lent
      → UnrollGives (program_output roll) lent roll
  -- an image or a number, never both: an image begins with 16 hex, and a number's line with a digit
  pub apart : (image : List ℕ) (m : Meaning) (number : ℕ) → Accepted image m → take 1 image ≢ take 1 (decimal_line number)

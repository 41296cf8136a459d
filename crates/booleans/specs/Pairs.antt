-- A byte opened at once, by its four pairs of bits. That these are its bits, the highest first, is shown over all 256 bytes (`opened-bits`).
use Rattle.std.specs.Prelude.{ℕ, ◌/◌, ◌%◌, List, [], ◌∷◌, ◌++◌}

-- the two bits of a number below 4, the high one first
abbrev pub pair_of : ℕ → List ℕ
pair_of p = (p / 2) ∷ (p % 2) ∷ []

-- the pairs of 0 to 3, end to end
abbrev pub pair_rows : List ℕ
pair_rows = 0 ∷ 0 ∷ 0 ∷ 1 ∷ 1 ∷ 0 ∷ 1 ∷ 1 ∷ []

-- the values of the four pairs of a byte, the high pair first
unfoldable pub opened_byte : ℕ → List ℕ
opened_byte b = pair_of (b / 64) ++ (pair_of (b / 16 % 4) ++ (pair_of (b / 4 % 4) ++ pair_of (b % 4)))

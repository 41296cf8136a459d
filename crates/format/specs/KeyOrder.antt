-- Keys are byte strings: "Keys ascend strictly, byte by byte unsigned, a proper prefix first."
--   key_fits     a key's length is possible
--   key_before   the order of keys
use Rattle.std.specs.Prelude.{ℕ, Bool, true, false, ◌&&◌, ◌||◌, List, [], ◌∷◌, eqb, ltb, leb}
use Rattle.format.specs.Limits.{key_most}

-- "Key length is 1 to 1,024.", of a key of n bytes: in an image, in a roll and in what is asked for
abbrev pub key_fits : (n : ℕ) → Bool
key_fits n = leb 1 n && leb n key_most

-- one key stands before another
abbrev pub key_before : List ℕ → List ℕ → Bool
key_before [] [] = false
key_before [] (y ∷ ys) = true
key_before (x ∷ xs) [] = false
key_before (x ∷ xs) (y ∷ ys) = ltb x y || (eqb x y && key_before xs ys)

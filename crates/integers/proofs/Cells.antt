-- Numbers that the loops of this crate lay, one after the other.
--   lay-start      all of them, laid from the start
--   runs, runs-are    the values that one stored number gives over and over
use Rattle.std.proofs.Common.{◌≡◌, ℕ, zero, suc, List, [], ◌∷◌, length, replicate, refl, ap, ◌∙◌}
use Rattle.format.specs.Bytes.{splice}
use Rattle.format.specs.Integers.{value_after, values_from}
use Rattle.format.proofs.Splices.{splice_front, overwrite-whole}

pub lay-start : (xs old : List ℕ) → length old ≡ length xs → splice 0 xs old ≡ xs
lay-start xs old e = splice_front xs old ∙ overwrite-whole xs old e

-- k values, each by the same stored number after the one before
abbrev pub runs : (value number k : ℕ) → List ℕ
runs value number zero = []
runs value number (suc k) = value ∷ runs (value_after value number) number k

pub runs-are : (value number k : ℕ) → runs value number (suc k) ≡ value ∷ values_from value (replicate k number)
runs-are value number zero = refl
runs-are value number (suc k) = ap (λ (vs : List ℕ). value ∷ vs) (runs-are (value_after value number) number k)

pub runs-length : (value number k : ℕ) → length (runs value number k) ≡ k
runs-length value number zero = refl
runs-length value number (suc k) = ap suc (runs-length (value_after value number) number k)

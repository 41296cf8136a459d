-- `numbers::power_of_ten` meets its contract: the table's rule is one computed test.
use Rattle.std.proofs.Common.{◌≡◌, ℕ, zero, suc, ◌+◌, ◌^◌, Bool, true, ◌&&◌, eqb, ltb, List, [], ◌∷◌, length, get_or, refl, arith, ltb-true, lt-ltb, eqb-true}
use Rattle.format.proofs.Tests.{both_left, both_right}
use Rattle.numbers.proofs.power_of_ten.Goals as goal

-- the table
abbrev powers : List ℕ
powers =
    1 ∷ 10 ∷ 100 ∷ 1_000 ∷ 10_000 ∷ 100_000 ∷ 1_000_000 ∷ 10_000_000 ∷ 100_000_000
    ∷ 1_000_000_000 ∷ 10_000_000_000 ∷ 100_000_000_000 ∷ 1_000_000_000_000 ∷ []

-- the powers of ten from 10^e on
abbrev powers_from : ℕ → List ℕ → Bool
powers_from e [] = true
powers_from e (x ∷ xs) = eqb x (10 ^ e) && powers_from (suc e) xs

power_at : (e : ℕ) (xs : List ℕ) → powers_from e xs ≡ true → (i : ℕ) → ltb i (length xs) ≡ true → (j : ℕ) → j ≡ i + e → get_or xs i 0 ≡ 10 ^ j
power_at e [] h i l j s = absurd (omega (arith, ltb-true i 0 l))
power_at e (x ∷ xs) h zero l j s =
    let z : j ≡ e = omega arith in
    rw z (eqb-true x (10 ^ e) (both_left (eqb x (10 ^ e)) _ h))
power_at e (x ∷ xs) h (suc i) l j s = power_at (suc e) xs (both_right (eqb x (10 ^ e)) _ h) i (lt-ltb i (length xs) (omega (arith, ltb-true (suc i) (suc (length xs)) l))) j (omega arith)

pub returns : goal.returns
returns c = power_at 0 powers refl c.args.e (lt-ltb c.args.e 13 (omega arith)) c.args.e (omega arith)

-- `gather` meets its contract.
use Rattle.std.proofs.Common.{◌≡◌, ℕ, suc, ◌+◌, ◌-◌, ◌*◌, ◌%◌, ◌^◌, ◌≤◌, ◌<◌, List, length, get_or, drop, arith, drop_of_length-le}
use lib.Pow.{shl_exact}
use Rattle.format.specs.Booleans.{byte_of_bits}
use Rattle.section_laws.proofs.Bits.{number-below, number-end, number-next}
use Rattle.section_laws.specs.Bits.{AllBits}
use Rattle.booleans.proofs.gather.Goals as goal

-- the value after i of them, in its bit
gathered : (values : List ℕ) (i : ℕ) → i < 8 → AllBits values
    → get_or values i 0 * 2 ^ (7 - i) % 2 ^ 64 + byte_of_bits (8 - (i + 1)) (drop (i + 1) values) ≡ byte_of_bits (8 - i) (drop i values)
gathered values i h all =
    let this : 8 - i ≡ suc (7 - i) = omega arith in
    let rest : 8 - (i + 1) ≡ 7 - i = omega arith in
    rw (this, rest, number-next i (7 - i) values, shl_exact {a = get_or values i 0} 1 (7 - i) 64 (all i) (omega arith))

-- no value is left after all
used-up : (vs : List ℕ) (i : ℕ) → length vs ≤ i → byte_of_bits (8 - i) (drop i vs) ≡ 0
used-up vs i h = rw drop_of_length-le (number-end (8 - i))

pub overflow_add-byte : goal.overflow_add-byte
overflow_add-byte c = omega (arith, gathered c.args.values.now c.loop-i.i (omega arith) c.requires.1, number-below 8 c.args.values.now c.requires.1)

pub loop-i-preserved : goal.loop-i-preserved
loop-i-preserved c = omega (arith, gathered c.args.values.now c.loop-i.i (omega arith) c.requires.1)

pub overflow_cast-result : goal.overflow_cast-result
overflow_cast-result c = omega (arith, number-below 8 c.args.values.now c.requires.1)

pub returns : goal.returns
returns c = omega (arith, used-up c.args.values.now c.loop-i.i (omega arith))

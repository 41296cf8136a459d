-- `put` meets its contract: the first byte, the count and the bits are laid one after the other.
use native.Mathlib.Omega.{arith}
use Prim.Native.Nat.{ℕ, ◌+◌, ◌<◌}
use mathlib.Core.Path.{◌≡◌, refl, subst, ◌∙◌}
use mathlib.Core.List.{List, ◌∷◌, ◌++◌}
use lib.ListN.{length, set}
use Rattle.format.specs.Varint.{varint}
use Rattle.format.specs.Booleans.{bytes_of_bits, bitmap_size, booleans_section}
use Rattle.format.specs.Bytes.{splice}
use Rattle.format.proofs.Splices.{splice-store, splice-append}
use Rattle.booleans.proofs.put.Goals as goal

-- the first byte, the count and the bits, laid one after the other
laid-section : (at n : ℕ) (vs out : List ℕ) → length vs ≡ n → at < length out
    → splice (at + 1 + length (varint n)) (bytes_of_bits (bitmap_size n) vs) (splice (at + 1) (varint n) (set out at 0x10)) ≡ splice at (booleans_section vs) out
unfolding booleans_section
laid-section at n vs out e inside =
    let front : List ℕ = 0x10 ∷ varint n in
    let bits = bytes_of_bits (bitmap_size n) vs in
    let place : at + length front ≡ at + 1 + length (varint n) = omega arith in
    rw (splice-store at 0x10 (varint n) out inside, e)
    (subst (λ (k : ℕ). splice k bits (splice at front out) ≡ splice at (front ++ bits) out) place (splice-append at front bits out (omega arith)))

pub returns-clause-laid : goal.returns-clause-laid
returns-clause-laid c =
    let a = c.args in
    c.put_bits.ensures.laid
    ∙ rw (c.put_varint-start.ensures.next, c.put_varint-start.ensures.laid) (laid-section a.at (length a.values.now) a.values.now a.out.now refl (omega arith))

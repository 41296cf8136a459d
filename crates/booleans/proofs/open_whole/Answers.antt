-- `open_whole` meets its contract: a byte is opened into its bits.
use Rattle.std.proofs.Common.{◌≡◌, ℕ, ◌+◌, ◌*◌, ◌≤◌, ◌<◌, List, [], ◌∷◌, ◌++◌, length, drop, get_or, sym, ap, ◌∙◌, subst, refl, eqb-true, arith, add-one, drop-cons, drop_of_length-le}
use mathlib.Core.List.{flat_map}
use Rattle.format.specs.Bytes.{splice}
use Rattle.format.specs.Booleans.{bits_high_first, bits_of_bytes}
use Rattle.format.proofs.Splices.{splice-append, splice-nothing, splice_front}
use Rattle.section_laws.proofs.Bits.{bits-length}
use Rattle.booleans.specs.Pairs.{opened_byte}
use Rattle.booleans.proofs.OpenedBytes.{opened-bits}
use Rattle.booleans.proofs.open_whole.Goals as goal

-- a byte is laid, and then what follows it
laid_more : (bytes values : List ℕ) (i : ℕ) → get_or bytes i 0 < 256 → i < length bytes → 8 * length bytes ≤ length values
    → splice (8 * (i + 1)) (bits_of_bytes (drop (i + 1) bytes)) (splice (8 * i) (opened_byte (get_or bytes i 0)) values) ≡ splice (8 * i) (bits_of_bytes (drop i bytes)) values
unfolding flat_map
laid_more bytes values i fits inside room =
    let byte = bits_high_first 8 (get_or bytes i 0) in
    let rest = bits_of_bytes (drop (i + 1) bytes) in
    let place : 8 * i + length byte ≡ 8 * (i + 1) = omega (arith, bits-length 8 (get_or bytes i 0)) in
    let next : drop i bytes ≡ get_or bytes i 0 ∷ drop (i + 1) bytes = rw add-one (drop-cons bytes i 0 inside) in
    ap (λ (l : List ℕ). splice (8 * (i + 1)) rest (splice (8 * i) l values)) (opened-bits (get_or bytes i 0) fits)
    ∙ subst (λ (k : ℕ). splice k rest (splice (8 * i) byte values) ≡ splice (8 * i) (byte ++ rest) values) place
    (splice-append (8 * i) byte rest values (omega arith))
    ∙ ap (λ (bs : List ℕ). splice (8 * i) (bits_of_bytes bs) values) (sym next)

no-bits : (bs : List ℕ) → length bs ≡ 0 → bits_of_bytes bs ≡ []
unfolding flat_map
no-bits [] e = refl
no-bits (b ∷ bs) e = absurd (omega arith)

pub returns-then-is_empty : goal.returns-then-is_empty
returns-then-is_empty c =
    rw (no-bits c.args.bytes.now (eqb-true (length c.args.bytes.now) 0 (sym c.is_empty.ensures ∙ c.if-is_empty.true)))

pub loop-i-init : goal.loop-i-init
loop-i-init c = splice_front _ _

pub loop-i-preserved : goal.loop-i-preserved
loop-i-preserved c =
    let a = c.args in
    let l = c.loop-i in
    ap (λ (vs : List ℕ). splice (8 * (l.i + 1)) (bits_of_bytes (drop (l.i + 1) a.bytes.now)) vs) c.open_byte.ensures
    ∙ laid_more a.bytes.now l.values l.i (c.type_inv.bytes l.i).fits (omega arith) (omega arith)
    ∙ l.invariant

pub returns : goal.returns
unfolding flat_map
returns c =
    let l = c.loop-i in
    sym (splice-nothing (8 * l.i) l.values) ∙ (rw (drop_of_length-le c.args.bytes.now {i = l.i} (omega arith)) at l.invariant)

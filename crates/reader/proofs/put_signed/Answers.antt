-- `put_signed` meets its contract: the values that are left, laid from i on, make what all of them make from the start.
use Rattle.std.proofs.Common.{◌≡◌, ℕ, ◌+◌, List, ◌∷◌, ℤ, get_or, set, map, drop, sym, ap, ◌∙◌, arith, add-one, drop-cons, drop_of_length-le, FitsSigned}
use Rattle.std.proofs.lemmas.List.{length-map}
use mir.Syntax.{w64}
use mir.ValLaws.{to_z-of_z}
use Rattle.format.specs.Signed as Signed
use Rattle.format.specs.Bytes.{splice}
use Rattle.format.proofs.Splices.{splice-nothing, splice_front, splice-store, overwrite-whole}
use Rattle.reader.proofs.put_signed.Goals as goal

pub loop-i-init : goal.loop-i-init
loop-i-init c =
    let laid = map Signed.signed c.args.patterns.now in
    splice_front laid c.args.out.now ∙ overwrite-whole laid c.args.out.now (sym c.requires ∙ sym (length-map c.args.patterns.now Signed.signed))

pub loop-i-preserved : goal.loop-i-preserved
loop-i-preserved c =
    let at = c.loop-i in
    let s = c.args.patterns.now in
    let x = get_or s at.i 0 in
    let rest = map Signed.signed (drop (at.i + 1) s) in
    let next : drop at.i s ≡ x ∷ drop (at.i + 1) s = rw add-one (drop-cons s at.i 0 (omega arith)) in
    let fits : FitsSigned w64 c.signed.result = omega (arith, c.signed.type_inv) in
    ap (λ (z : ℤ). splice (at.i + 1) rest (set at.out at.i z)) (to_z-of_z w64 c.signed.result fits ∙ c.signed.ensures)
    ∙ splice-store at.i (Signed.signed x) rest at.out (omega arith)
    ∙ ap (λ (xs : List ℕ). splice at.i (map Signed.signed xs) at.out) (sym next)
    ∙ at.invariant

pub returns : goal.returns
returns c =
    let at = c.loop-i in
    sym (splice-nothing at.i at.out) ∙ rw (drop_of_length-le c.args.patterns.now {i = at.i} (omega arith)) at at.invariant

-- `open_bits` meets its contract.
use Rattle.std.proofs.Common.{◌≡◌, ℕ, ◌+◌, ◌-◌, ◌/◌, ◌%◌, ◌^◌, List, length, take, sym, ap, ◌∙◌, arith}
use Rattle.format.specs.Booleans.{bits_high_first}
use Rattle.format.specs.Bytes.{splice}
use Rattle.format.proofs.Splices.{splice-nothing, splice-store}
use Rattle.section_laws.proofs.Bits.{bits-first}
use Rattle.booleans.proofs.open_bits.Goals as goal

pub loop-i-init : goal.loop-i-init
loop-i-init c = let here : c.args.at - c.args.at ≡ 0 = omega arith in rw here

pub loop-i-preserved : goal.loop-i-preserved
loop-i-preserved c =
    let a = c.args in
    let l = c.loop-i in
    let n = length a.values.now in
    let bit = a.byte / 2 ^ (7 - (l.i - a.at)) % 2 in
    let left : n - a.at - (l.i - a.at) ≡ n - l.i = omega arith in
    let less : n - a.at - (l.i - a.at + 1) ≡ n - (l.i + 1) = omega arith in
    let further : l.i + 1 - a.at ≡ l.i - a.at + 1 = omega arith in
    let next = rw (left, less) at (bits-first (l.i - a.at) (n - a.at) a.byte (omega arith) (omega arith)) in
    rw (c.from.ensures, further)
    (splice-store l.i bit (take (n - (l.i + 1)) (bits_high_first (8 - (l.i - a.at + 1)) a.byte)) l.values (omega arith)
    ∙ ap (λ (bs : List ℕ). splice l.i bs l.values) (sym next)
    ∙ l.invariant)

pub returns : goal.returns
returns c =
    let l = c.loop-i in
    let none : length c.args.values.now - l.i ≡ 0 = omega arith in
    sym (splice-nothing l.i l.values) ∙ (rw none at l.invariant)

-- `lay` meets its contract: the values that are left, laid from i on, make what all of them make from the start.
use Rattle.std.proofs.Common.{◌≡◌, ◌+◌, ◌∷◌, drop, sym, ap, ◌∙◌, arith, add-one, drop-cons, drop_of_length-le}
use Rattle.format.specs.Bytes.{splice}
use Rattle.format.proofs.Splices.{splice-nothing, splice_front, splice-store, overwrite-whole}
use Rattle.block_merge.proofs.lay.Goals as goal

pub loop-i-init : goal.loop-i-init
loop-i-init g c = splice_front c.args.values.now c.args.cells.now ∙ overwrite-whole c.args.values.now c.args.cells.now (sym c.requires)

pub loop-i-preserved : goal.loop-i-preserved
loop-i-preserved g c =
    let l = c.loop-i in
    let s = c.args.values.now in
    let x = c.index-values-i.result in
    let rest = drop (l.i + 1) s in
    let next : drop l.i s ≡ x ∷ rest = rw (add-one, c.index-values-i.is) (drop-cons s l.i x (omega arith)) in
    splice-store l.i x rest l.cells (omega arith)
    ∙ ap (λ xs. splice l.i xs l.cells) (sym next)
    ∙ l.invariant

pub returns : goal.returns
returns g c =
    let l = c.loop-i in
    sym (splice-nothing l.i l.cells) ∙ rw (drop_of_length-le c.args.values.now {i = l.i} (omega arith)) at l.invariant

-- `simple8b::fill` meets its contract. The loop's invariant: the first cells are filled, and the bits that are left hold the others.
use Rattle.std.proofs.Common.{◌/◌, ◌^◌, bit_and, refl, ap, ◌∙◌, replicate, arith}
use Rattle.format.specs.Simple8b.{unpack}
use Rattle.simple8b.proofs.Widths.{masked, mask-pos}
use Rattle.simple8b.proofs.Table.{Known, known}
use Rattle.simple8b.proofs.Words.{ones-are, bits_are, opening-start, opening-more, opening-end}
use Rattle.simple8b.proofs.fill.Goals as goal

pub returns-then-selector-eq0 : goal.returns-then-selector-eq0
returns-then-selector-eq0 c =
    c.fill.ensures.after (λ y e. e) ∙ ap (λ n. replicate n 1) c.requires.1 ∙ ones-are c.args.word c.args.selector c.requires.0 c.if-selector-eq0.true

pub overflow_shl-mask : goal.overflow_shl-mask
overflow_shl-mask c =
    let k : Known c.args.selector = known (c.args.word / 2 ^ 60) c.args.selector (omega arith) c.requires.0 in
    omega (arith, k.wide)

pub overflow_sub-mask : goal.overflow_sub-mask
overflow_sub-mask c = mask-pos c.args.selector.width (known (c.args.word / 2 ^ 60) c.args.selector (omega arith) c.requires.0).wide

pub loop-cell-init : goal.loop-cell-init
loop-cell-init c =
    opening-start _ _ _ _ _
    (ap (λ n. unpack c.args.selector.width n (bit_and c.args.word 0x0fff_ffff_ffff_ffff)) c.requires.1
    ∙ bits_are c.args.word c.args.selector c.requires.0 (omega (arith, c.if-selector-eq0.false)))
    refl

pub overflow_shr-rest : goal.overflow_shr-rest
overflow_shr-rest c =
    let k : Known c.args.selector = known (c.args.word / 2 ^ 60) c.args.selector (omega arith) c.requires.0 in
    omega (arith, k.wide)

pub loop-cell-preserved : goal.loop-cell-preserved
loop-cell-preserved c =
    rw (masked c.args.selector.width _ (known (c.args.word / 2 ^ 60) c.args.selector (omega arith) c.requires.0).wide)
    (opening-more c.loop-cell.invariant c.loop-cell-test.true)

pub returns : goal.returns
returns c = opening-end c.loop-cell.invariant c.loop-cell-test.false

-- `simple8b::pack_word` meets its contract. The loop's invariant: the bits are those of the numbers from i on.
use Rattle.std.proofs.Common.{◌≡◌, ◌+◌, ◌*◌, ◌%◌, ◌^◌, arith}
use Rattle.format.specs.Simple8b.{word_for}
use Rattle.simple8b.specs.Selectors.{selector_of}
use borrow.Author.Tests.{eq-eqb, ne_eqb}
use Rattle.simple8b.proofs.Table.{known}
use Rattle.simple8b.proofs.Gather.{fits-many, fits_all, gather-start, gather-fits, gather-end, next, next_fits}
use Rattle.simple8b.proofs.pack_word.Goals as goal

pub returns-then-width-eq0 : goal.returns-then-width-eq0
unfolding word_for selector_of
returns-then-width-eq0 c =
    let z = rw c.selector_at-selector.ensures at c.if-width-eq0.true in
    let m : c.args.p * 2 ^ 60 % 2 ^ 64 ≡ c.args.p * 2 ^ 60 + 0 = omega (arith, c.requires.0) in
    rw (eq-eqb _ 0 z) m

pub loop-i-init : goal.loop-i-init
loop-i-init c =
    let r = c.selector_at-selector.result in
    let e = c.selector_at-selector.ensures in
    let k = known c.args.p r c.requires.0 e in
    let m = fits-many c.args.numbers.now c.args.p r e c.requires.1 in
    let f = fits_all c.args.numbers.now c.args.p r e c.requires.1 c.if-width-eq0.false in
    record {
      many = m;
      fit = f;
      used = k.used;
      wide = k.wide;
      within = omega arith;
      holds = gather-start _ _ _ m f k.used;
    }

pub overflow_add-bits : goal.overflow_add-bits
overflow_add-bits c = record { fits = omega (arith, next_fits c.loop-i.invariant c.loop-i-test.true) }

pub loop-i-preserved : goal.loop-i-preserved
loop-i-preserved c = next c.loop-i.invariant c.loop-i-test.true

pub overflow_add-result : goal.overflow_add-result
overflow_add-result c = record { fits = omega (arith, gather-fits c.loop-i.invariant, c.requires.0) }

pub returns : goal.returns
unfolding word_for selector_of
returns c =
    let k = gather-end c.loop-i.invariant c.loop-i-test.false in
    let m : c.args.p * 2 ^ 60 % 2 ^ 64 ≡ c.args.p * 2 ^ 60 = omega (arith, c.requires.0) in
    let n = rw c.selector_at-selector.ensures at c.if-width-eq0.false in
    rw (m, k, c.selector_at-selector.ensures, ne_eqb _ 0 n)

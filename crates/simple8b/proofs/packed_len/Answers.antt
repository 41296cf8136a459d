-- `simple8b::packed_len` meets its contract: the bytes counted and those of what is left are those of all.
use Rattle.std.proofs.Common.{ap, arith}
use lib.ListN.{length, length-drop}
use borrow.Author.Tests.{true-eqb, false-eqb}
use Rattle.section_laws.proofs.PackedWords.{packed_bytes-most}
use Rattle.simple8b.proofs.Packing.{after-front, bytes-none, next-known, next-many, next-length, next-packs}
use Rattle.simple8b.proofs.packed_len.Goals as goal

pub selector_at-selector-requires : goal.selector_at-selector-requires
selector_at-selector-requires c =
    next-known _ c.loop-rest.invariant.0 (false-eqb _ _ c.loop-rest-test.ensures) c.choose.result c.choose.ensures

pub slice_bounds-rest-count : goal.slice_bounds-rest-count
slice_bounds-rest-count c =
    let m = next-many _ c.loop-rest.invariant.0 (false-eqb _ _ c.loop-rest-test.ensures) c.choose.result c.choose.ensures c.selector_at-selector.result c.selector_at-selector.ensures in
    m.1

pub slice_bounds-rest-start : goal.slice_bounds-rest-start
slice_bounds-rest-start c =
    let m = next-many _ c.loop-rest.invariant.0 (false-eqb _ _ c.loop-rest-test.ensures) c.choose.result c.choose.ensures c.selector_at-selector.result c.selector_at-selector.ensures in
    m.1

pub overflow_add-len : goal.overflow_add-len
overflow_add-len c =
    let i = c.loop-rest.invariant in
    let l = next-length _ i.0 (false-eqb _ _ c.loop-rest-test.ensures) c.choose.result c.choose.ensures c.selector_at-selector.result c.selector_at-selector.ensures in
    omega (arith, l, i.1, packed_bytes-most c.args.numbers.now, c.well_formed)

pub loop-rest-smaller : goal.loop-rest-smaller
loop-rest-smaller c =
    let m = next-many _ c.loop-rest.invariant.0 (false-eqb _ _ c.loop-rest-test.ensures) c.choose.result c.choose.ensures c.selector_at-selector.result c.selector_at-selector.ensures in
    rw after-front (omega (arith, m, length-drop c.selector_at-selector.result.count c.loop-rest.rest.now))

pub loop-rest-preserved : goal.loop-rest-preserved
loop-rest-preserved c =
    let i = c.loop-rest.invariant in
    let h = false-eqb _ _ c.loop-rest-test.ensures in
    let l = next-length _ i.0 h c.choose.result c.choose.ensures c.selector_at-selector.result c.selector_at-selector.ensures in
    rw after-front
    (next-packs _ i.0 h c.choose.result c.choose.ensures c.selector_at-selector.result c.selector_at-selector.ensures, omega (arith, l, i.1))

pub returns : goal.returns
returns c =
    let i = c.loop-rest.invariant in
    omega (arith, i.1, ap length (bytes-none _ (true-eqb _ _ c.loop-rest-test.ensures)))

-- `simple8b::put_packed` meets its contract: what is left, laid here, completes what is laid from the start.
use Rattle.std.proofs.Common.{ap, ◌∙◌, ℕ, arith}
use lib.ListN.{length-drop}
use borrow.Author.Tests.{true-eqb, false-eqb}
use Rattle.format.specs.Bytes.{big_bytes, splice}
use Rattle.simple8b.proofs.Packing.{after-front, lay-end, lay-room, lay-more, next-known, next-fits, next-many}
use Rattle.simple8b.proofs.put_packed.Goals as goal

pub pack_word-requires : goal.pack_word-requires
pack_word-requires c =
    let fit = c.loop-rest.invariant.fit in
    let h = false-eqb _ _ c.loop-rest-test.ensures in
    (next-known _ fit h c.choose-p.result c.choose-p.ensures, next-fits _ fit h c.choose-p.result c.choose-p.ensures)

pub put_u64-requires : goal.put_u64-requires
put_u64-requires c = lay-room c.loop-rest.invariant (false-eqb _ _ c.loop-rest-test.ensures) c.choose-p.result c.choose-p.ensures

pub selector_at-selector-requires : goal.selector_at-selector-requires
selector_at-selector-requires c =
    next-known _ c.loop-rest.invariant.fit (false-eqb _ _ c.loop-rest-test.ensures) c.choose-p.result c.choose-p.ensures

pub slice_bounds-rest-count : goal.slice_bounds-rest-count
slice_bounds-rest-count c =
    let m = next-many _ c.loop-rest.invariant.fit (false-eqb _ _ c.loop-rest-test.ensures) c.choose-p.result c.choose-p.ensures c.selector_at-selector.result c.selector_at-selector.ensures in
    m.1

pub slice_bounds-rest-start : goal.slice_bounds-rest-start
slice_bounds-rest-start c =
    let m = next-many _ c.loop-rest.invariant.fit (false-eqb _ _ c.loop-rest-test.ensures) c.choose-p.result c.choose-p.ensures c.selector_at-selector.result c.selector_at-selector.ensures in
    m.1

pub loop-rest-smaller : goal.loop-rest-smaller
loop-rest-smaller c =
    let m = next-many _ c.loop-rest.invariant.fit (false-eqb _ _ c.loop-rest-test.ensures) c.choose-p.result c.choose-p.ensures c.selector_at-selector.result c.selector_at-selector.ensures in
    rw after-front (omega (arith, m, length-drop c.selector_at-selector.result.count c.loop-rest.rest.now))

pub loop-rest-preserved : goal.loop-rest-preserved
loop-rest-preserved c =
    rw after-front
    (lay-more c.loop-rest.invariant (false-eqb _ _ c.loop-rest-test.ensures) c.choose-p.result c.choose-p.ensures c.selector_at-selector.result c.selector_at-selector.ensures _
    (c.put_u64.ensures ∙ ap (λ (w : ℕ). splice c.loop-rest.place (big_bytes 8 w) c.loop-rest.out) c.pack_word.ensures))

pub returns : goal.returns
returns c = let e = lay-end c.loop-rest.invariant (true-eqb _ _ c.loop-rest-test.ensures) in record { next = e.0; laid = e.1 }

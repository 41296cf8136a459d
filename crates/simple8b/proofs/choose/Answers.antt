-- `simple8b::choose` meets its contract. The loop's invariant: no selector before p fits, and the numbers before i fit the width of p.
use Rattle.std.proofs.Common.{arith}
use borrow.Author.Tests.{true-eqb, false-eqb}
use Rattle.simple8b.proofs.Table.{known}
use Rattle.simple8b.proofs.Search.{search-none, search-short, search-miss, search-hit}
use Rattle.simple8b.proofs.Starts.{search-from, search-empty}
use Rattle.simple8b.proofs.choose.Goals.{then-count-numbers+in-Some, else-count-numbers}
use Rattle.simple8b.proofs.choose.Goals as goal

pub returns-then-is_empty : goal.returns-then-is_empty
returns-then-is_empty c = search-empty _ (true-eqb _ _ c.if-is_empty.ensures)

pub loop-p-init : goal.loop-p-init
loop-p-init c = search-from _ _ (false-eqb _ _ c.if-is_empty.ensures) c.start-p.ensures

pub misfit-requires : goal.misfit-requires
misfit-requires c =
    let k = known _ c.selector_at-selector.result (omega (arith, c.loop-p-test.true)) c.selector_at-selector.ensures in
    (c.if-count-numbers.true, k.wide)

pub returns-in_default : goal.returns-in_default
returns-in_default c =
    search-hit c.loop-p.invariant c.loop-p-test.true c.selector_at-selector.result c.selector_at-selector.ensures c.if-count-numbers.true c.in_default.ensures

pub loop-p-preserved : goal.loop-p-preserved
loop-p-preserved c =
    let s = c.loop-p.invariant in
    let h = c.loop-p-test.true in
    let k = c.selector_at-selector in
    elim c.if-count-numbers.branch [
      | then-count-numbers+in-Some w ↦ rw w.i-is (search-miss s h k.result k.ensures _ w.if-count-numbers.true w.in-Some.ensures)
      | else-count-numbers w ↦ rw w.i-is (search-short s h k.result k.ensures w.if-count-numbers.false)
    ]

pub returns : goal.returns
returns c = search-none c.loop-p.invariant (omega (arith, c.loop-p-test.false))

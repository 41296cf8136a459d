-- `finder::covering` meets its contract: the entries passed do not cover the time, so those left decide.
use Rattle.std.proofs.Common.{◌≡◌, ◌+◌, ◌-◌, ◌*◌}
use Rattle.finder.proofs.Searches.{cover_at}
use Rattle.finder.proofs.covering.Given as goal

abbrev pub invariant-loop-i : goal.invariant-loop-i
invariant-loop-i l =
    let c = l.fn.c in
    cover_at l.fn.time c.kind l.index.bytes.now (c.at.0 + l.i * 28) (c.left - l.i) ≡ cover_at l.fn.time c.kind l.index.bytes.now c.at.0 c.left

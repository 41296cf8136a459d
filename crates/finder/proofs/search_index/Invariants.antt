-- `finder::search_index` meets its contract: what is left from the cursor decides the search as the whole index does.
use Rattle.std.proofs.Common.{◌≡◌, ◌-◌, length}
use Rattle.index.specs.Cursors.{first_cursor, rest}
use Rattle.index.proofs.Loops.{Deciding}
use Rattle.finder.proofs.Searches.{decides}
use Rattle.finder.proofs.search_index.Given as goal

abbrev pub invariant-loop-met : goal.invariant-loop-met
invariant-loop-met l =
    Deciding l.index.bytes.now l.index.start.0 (decides l.key l.fn.time (rest l.index.bytes.now l.index.start.0 first_cursor)) l.c (decides l.key l.fn.time) × (l.c.left ≡ 0)

abbrev pub decreases-loop-met : goal.decreases-loop-met
decreases-loop-met l = length l.index.bytes.now - l.c.at.0

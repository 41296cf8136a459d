-- `simple8b::count_numbers` meets its contract: the numbers counted and those of the words left are all of them.
use Rattle.std.proofs.Common.{◌*◌, drop}
use Rattle.simple8b.proofs.Counting.{Counted}
use Rattle.simple8b.proofs.count_numbers.Given as goal

abbrev pub invariant-loop-i : goal.invariant-loop-i
invariant-loop-i l = Counted l.words l.count (drop (l.i * 8) l.words)

-- `numbers::all_equal`: the numbers that are left decide.
use Rattle.std.proofs.Common.{◌≡◌, eqb, get_or, drop}
use Rattle.format.specs.Choice.{every, all_equal}
use Rattle.numbers.proofs.all_equal.Given as goal

abbrev pub invariant-loop-word : goal.invariant-loop-word
invariant-loop-word l = every (eqb (get_or l.words 0 0)) (drop l.word-index l.words) ≡ all_equal l.words

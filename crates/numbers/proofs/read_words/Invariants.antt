-- `numbers::read_words`: the numbers that are left, laid from i on, make what all of them make from the start.
use Rattle.std.proofs.Common.{◌≡◌, ◌+◌, ◌-◌, ◌*◌, length, drop}
use Rattle.format.specs.Bytes.{words_of, splice}
use Rattle.numbers.proofs.read_words.Given as goal

abbrev pub invariant-loop-i : goal.invariant-loop-i
invariant-loop-i l =
    splice l.i (words_of (length l.initial.cells - l.i) (drop (l.at + l.i * 8) l.s)) l.cells ≡ words_of (length l.initial.cells) (drop l.at l.s)

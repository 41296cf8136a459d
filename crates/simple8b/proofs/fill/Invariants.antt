-- `simple8b::fill` meets its contract. The loop's invariant: the first cells are filled, and the bits that are left hold the others.
use Rattle.std.proofs.Common.{length}
use Rattle.format.specs.Simple8b.{word_numbers}
use Rattle.simple8b.proofs.Words.{Opening}
use Rattle.simple8b.proofs.fill.Given as goal

abbrev pub invariant-loop-cell : goal.invariant-loop-cell
invariant-loop-cell l = Opening (word_numbers l.word) l.width (length l.initial.cells) l.cells l.cell-index l.rest

-- `timestamps_writer::divide_by` meets its contract: the numbers passed are divided, and those left are to be.
use Rattle.std.proofs.Common.{◌≡◌, ◌/◌, ◌++◌, map, take, drop}
use Rattle.timestamps_writer.proofs.divide_by.Given as goal

abbrev pub invariant-loop-cell : goal.invariant-loop-cell
invariant-loop-cell l = take l.cell-index l.cells ++ map (λ d. d / l.scale) (drop l.cell-index l.cells) ≡ map (λ d. d / l.scale) l.initial.cells

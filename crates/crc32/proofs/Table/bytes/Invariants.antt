-- `Table::bytes` meets its contract: what is left of the bytes, taken from the present register, gives the answer.
use mathlib.Core.Path.{◌≡◌}
use lib.ListN.{drop}
use Rattle.format.specs.Crc32.{crc_from}
use Rattle.crc32.proofs.Table.bytes.Given as goal

abbrev pub invariant-loop-b : goal.invariant-loop-b
invariant-loop-b l = crc_from l.register (drop l.b-index l.s) ≡ crc_from l.c l.s

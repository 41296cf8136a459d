-- `Table::short` meets its contract: what is left of the words, taken from the present register, gives the answer.
use mathlib.Core.Path.{◌≡◌}
use lib.ListN.{drop}
use Rattle.std.specs.List.{concat}
use Rattle.format.specs.Crc32.{crc_from}
use Rattle.crc32.proofs.Table.short.Given as goal

abbrev pub invariant-loop-word : goal.invariant-loop-word
invariant-loop-word l = crc_from l.register (concat (drop l.word-index l.words)) ≡ crc_from 0xFFFF_FFFF (concat l.words)

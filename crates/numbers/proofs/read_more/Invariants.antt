-- `numbers::read_more`: the state of reading goes on byte by byte (`Scans`).
use Rattle.std.proofs.Common.{◌+◌, ◌-◌}
use Rattle.numbers.specs.VarintAt.{Reading}
use Rattle.numbers.proofs.read_more.Given as goal

abbrev pub invariant-loop-place : goal.invariant-loop-place
invariant-loop-place l = Reading l.s l.at l.value l.scale (1 + (l.place - l.from)) l.place

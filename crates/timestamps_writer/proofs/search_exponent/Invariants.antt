-- `timestamps_writer::search_exponent` meets its contract: where a difference is not divided, the exponent falls by one.
use Prim.Native.Nat.{◌-◌}
use Rattle.timestamps_writer.proofs.Exponents.{Finding}
use Rattle.timestamps_writer.proofs.search_exponent.Given as goal

abbrev pub invariant-loop-e : goal.invariant-loop-e
invariant-loop-e l = Finding l.differences (l.e - 1) l.rest

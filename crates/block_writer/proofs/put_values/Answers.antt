-- `put_values` meets its contract: the section of the kind lays it.
use Prim.Native.Nat.{ℕ, ◌+◌}
use mathlib.Core.Path.{ap, sym, ◌∙◌}
use Rattle.section_laws.proofs.BlockLengths.{booleans_section-length}
use Rattle.block_writer.proofs.put_values.Goals as goal

pub put-requires-in-Boolean : goal.put-requires-in-Boolean
put-requires-in-Boolean c =
    (rw (c.in-Boolean.is, booleans_section-length c.args.values.now) at c.requires.1, rw c.in-Boolean.is at c.requires.0.of-kind)

pub returns-in-Boolean : goal.returns-in-Boolean
returns-in-Boolean c = rw c.in-Boolean.is record {
  next = c.put-in-Boolean.ensures.next ∙ ap (λ (k : ℕ). c.args.at + k) (sym (booleans_section-length c.args.values.now));
  laid = c.put-in-Boolean.ensures.laid;
}

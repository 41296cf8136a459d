-- `values_len` meets its contract: the section of the kind says its length.
use mathlib.Core.Path.{sym, ◌∙◌}
use Rattle.section_laws.proofs.BlockLengths.{booleans_section-length}
use Rattle.block_writer.proofs.values_len.Goals as goal

pub returns-in-Boolean : goal.returns-in-Boolean
returns-in-Boolean c =
    rw c.in-Boolean.is (c.len-in-Boolean.ensures ∙ sym (booleans_section-length c.args.values.now))

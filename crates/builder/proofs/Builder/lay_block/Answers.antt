-- `lay_block` meets its contract: a block is laid, or its length added.
use native.Mathlib.Omega.{arith}
use Rattle.builder.proofs.Entries.{block-most}
use Rattle.builder.proofs.Builder.lay_block.Goals as goal

pub overflow_add-result : goal.overflow_add-result
overflow_add-result c = omega (arith, c.requires.1, c.len.ensures, block-most _ _ c.requires.0)

-- `grow` meets its contract: where a side has none left, the other's points follow.
use borrow.Author.Rules.{rules}
use Rattle.block_merge.proofs.Grows.{grown-older}
use Rattle.block_merge.proofs.grow.Goals as goal

pub returns-then-is_empty-2 : goal.returns-then-is_empty-2
returns-then-is_empty-2 c = grown-older _ _ _ _ _ _ (search rules) c.copy-more-then-is_empty-2.ensures

-- `count_block` meets its contract: the part of the image is the block of the entry.
use Rattle.feed.proofs.count_block.Goals as goal

pub count_good-requires : goal.count_good-requires
count_good-requires c =
    rw c.block_part.ensures c.requires.0

pub returns : goal.returns
returns c =
    rw c.block_part.ensures at c.count_good.ensures

-- `open_block` meets its contract: the part of the image is the block of the entry.
use Rattle.index.proofs.Frames.{block-long}
use Rattle.feed.proofs.open_block.Goals as goal

pub read_good-requires : goal.read_good-requires
read_good-requires c =
    let part = c.block_part.ensures in
    (rw part c.requires.0, rw part (block-long _ _ c.requires.1).1)

pub returns : goal.returns
returns c =
    rw c.block_part.ensures at c.read_good.ensures

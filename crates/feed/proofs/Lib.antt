-- The laws of this crate; a client of a feed needs `points-blocks` of Cells and `refilled` of Standing.
--   Readings   blocks and series that were read, one by one
--   Standing   a feed by what its index and its blocks read
--   Cells      the decoded block in the cells
--   Keys       the first feed, and the next key
--   Blocks     the next block
--   Counts     counting the points of a key
pub mod Readings
pub mod Standing
pub mod Cells
pub mod Keys
pub mod Blocks
pub mod Counts

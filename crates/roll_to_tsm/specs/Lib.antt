-- What the program says of its reads.
--   Input   what was read of standard input
pub mod Input

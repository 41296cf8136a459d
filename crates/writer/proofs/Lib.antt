-- The laws of this crate.
--   Results  what is read of a key, part by part
--   Fills    points that are read into the fill
--   Adds     adding points that were read
--   Points   adding all points of a key
--   Series   adding a series
--   Passes   a pass over all series
--   Writes   the act
--   Responses   what the program writes
pub mod Results
pub mod Fills
pub mod Adds
pub mod Points
pub mod Series
pub mod Passes
pub mod Writes
pub mod Responses

-- The laws of this crate.
--   Series    a series is added
--   Passes    series after series, over all of both images
--   Acts      what merge answers
pub mod Series
pub mod Passes
pub mod Acts

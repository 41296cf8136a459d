-- The laws of this crate.
--   Starts    the first feed of an accepted image
--   Keys      the next key of two images, and the kinds
--   Skips     an entry of the index is passed
pub mod Starts
pub mod Keys
pub mod Skips

-- The laws of this crate.
--   Settles   a side at its next point
--   Points    the merged points of a key, added fill by fill
pub mod Settles
pub mod Points

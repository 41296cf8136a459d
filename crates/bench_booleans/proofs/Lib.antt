-- The laws of this crate.
--   Rows   what a row answers, and what it leaves in the lent slice
pub mod Rows

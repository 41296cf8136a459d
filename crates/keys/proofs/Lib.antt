-- The law of this crate.
--   Orders   which key stands first
pub mod Orders

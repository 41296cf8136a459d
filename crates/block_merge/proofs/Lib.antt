-- The laws of this crate.
--   Moves     points go from the blocks into the fill
--   Grows     the same, of the older block that is left
pub mod Moves
pub mod Grows

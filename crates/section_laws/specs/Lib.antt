-- Definitions that the sections share.
--   Choices   what our writer chooses by
--   Cells     the lent cells after reading
--   Packing   packing for any width
--   Bits      bits as numbers
pub mod Choices
pub mod Cells
pub mod Packing
pub mod Bits

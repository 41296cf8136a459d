-- The laws behind this crate's functions.
--   Exponents the search for the exponent
--   Gaps      the differences between ascending times
--   Layouts   our writer's section by its layout
pub mod Exponents
pub mod Gaps
pub mod Layouts

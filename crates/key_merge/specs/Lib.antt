-- What the code of this crate means beyond the definitions of crate format.
pub mod Turns

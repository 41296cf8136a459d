-- What the code of this crate means beyond the definitions of crate format: what is still to come of an accepted image.
pub mod Feeds

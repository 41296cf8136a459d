-- What the code of this crate means beyond the definitions of crate format.
--   Adding   a pass over a roll: what its steps ask, and what they answer
--   Program  what the program hears of standard input
pub mod Adding
pub mod Program

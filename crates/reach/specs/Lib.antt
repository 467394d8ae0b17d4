-- What a procedure calls, as a pass over its forms; the table of what procedures reach.
pub mod Passes
pub mod Reached

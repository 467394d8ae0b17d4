-- The answer from what is checked; the lines of the slip from their parts; the examples.
pub mod Needed
pub mod Lines
pub mod Examples

-- What is left of a text that was checked.
pub mod Checks

-- What a function that prints says of it.
pub mod Printing

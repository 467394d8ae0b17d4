-- The table of which threads cross; the number that an argument is, and what is asked for; the examples.
pub mod Tables
pub mod Numbers
pub mod Examples

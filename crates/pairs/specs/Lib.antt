-- The list of a procedure's pairs as it is collected from the table of forms, and in words.
pub mod Insertion
pub mod Collect
pub mod Words

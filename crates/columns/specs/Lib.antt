-- Pairs as two columns, and the numbers that stand for them; the lists of several threads.
pub mod Columns
pub mod Rows

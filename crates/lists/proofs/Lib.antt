-- The pairs of a thread's list in the table of lists, and the table while it is filled.
pub mod Pairs
pub mod Filling

-- The laws that the proofs of the functions cite: of rows, of one thread, and of the cycle's members one after the other.
pub mod Rows
pub mod Threads
pub mod Members

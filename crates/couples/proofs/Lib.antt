-- Pairs read from a list of words; couples into buffers; the members of the list of couples and their order; that two threads have none exactly where they alone can never become
-- stuck.
pub mod Records
pub mod Putting
pub mod Loops
pub mod Members
pub mod Order
pub mod Alone

-- Tests and what they say; tables that pass one; choices, folds and writes in the shape of a function's needs; equal lists; masks; what stands at a place, and members by their
-- places; ascending lists; sums; the pigeonhole.
pub mod Tests
pub mod Tables
pub mod Bytes
pub mod Choices
pub mod Folds
pub mod Writes
pub mod Wrote
pub mod Bits
pub mod Masks
pub mod Places
pub mod Members
pub mod Ascending
pub mod Sums
pub mod Pigeonhole

-- The pairs found, and handed to the caller.
pub mod ListedPairs

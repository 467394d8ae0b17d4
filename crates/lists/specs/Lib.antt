-- The pair lists of a plan's threads in one table of pairs.
pub mod Lists

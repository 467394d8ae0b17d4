-- The limits of a plan, for definitions and contracts.
pub mod Limits

-- A plan in bare form, and what its writers leave in the lent output.
pub mod Bare
pub mod Writing

-- What a procedure's forms cost.
pub mod Costs
-- The laws that the proofs of the functions cite: the sum, the sizes found so far, rule 9, the space.
pub mod Sums
pub mod Found
pub mod LargeProcs
pub mod Spaces

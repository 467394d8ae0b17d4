-- The search for a cycle, over all candidates and claim by claim.
pub mod Cycles
pub mod ClaimByClaim
-- The whole.
pub mod Finding

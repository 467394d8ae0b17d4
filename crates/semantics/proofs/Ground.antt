-- Groundwork: what stands against a claim, sets of claims as masks, members that pass a test, tables of threads, the depth to which calls are followed.
pub mod Claims
pub mod LockSets
pub mod Members
pub mod Tables
pub mod CallDepth
pub mod SizeDepth

-- What the pass over a procedure's forms gives, and the laws that the proofs of the functions cite: an array's `map`, the rounds, the test of rule 12.
pub mod Maps
pub mod Called
pub mod Rounds
pub mod RecursiveProcs

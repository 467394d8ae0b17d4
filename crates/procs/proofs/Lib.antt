-- What the passes give on the forms of a plan, and what the layout says of its threads; what a check answers behind a `?`.
pub mod Places
pub mod Layouts
pub mod Answered
-- The laws that the proofs of the functions cite: what the pass over a table writes, the front of a slice, the lowest procedure that passes a test.
pub mod Finding
pub mod Fronts
pub mod LowestProc

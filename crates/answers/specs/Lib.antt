-- The answers of the calls: their cases with 01's numbers, the 64-bit numbers for C, and what a verdict says.
pub mod Answers
pub mod Judgement

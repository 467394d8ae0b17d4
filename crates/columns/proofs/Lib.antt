-- Two columns row by row; pairs and their columns, steps, candidates.
pub mod Zipped
pub mod Numbers
pub mod Candidates
pub mod Steps
pub mod Buffers

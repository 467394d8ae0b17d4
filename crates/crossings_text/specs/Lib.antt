-- What the program `crossings` prints of all threads, with examples, and what its arguments ask for.
pub mod AllCrossings
pub mod Request
pub mod Examples

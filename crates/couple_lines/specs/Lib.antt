-- What the program `crossings` prints of two threads.
pub mod CoupleLines

-- The promise of the crossings of two threads, for words and for bytes.
pub mod Crossed

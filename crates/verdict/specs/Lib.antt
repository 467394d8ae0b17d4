-- The promise of the verdict, for entries and for bytes.
pub mod Judged

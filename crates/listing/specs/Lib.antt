-- The promise of the pair list, for words and for bytes.
pub mod Listed

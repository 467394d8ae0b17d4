-- The lines from their parts; the couples of one pair, all parts joined, and each by its place.
pub mod Lines
pub mod Parts
pub mod Places

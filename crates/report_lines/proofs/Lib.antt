-- Texts written one behind another, digits, lists whose texts are written, how long texts are, lines from their parts.
pub mod Writing
pub mod Digits
pub mod Listings
pub mod Widths
pub mod WholeLines
pub mod Examples

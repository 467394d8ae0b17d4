-- The wiring table as text.
pub mod Wiring

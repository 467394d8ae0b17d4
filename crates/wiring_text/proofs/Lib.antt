-- The rows of the wiring table.
pub mod Rows

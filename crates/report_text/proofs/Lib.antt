-- The parts of the report, and the tables that they are written from.
pub mod Parts
pub mod Preparing
pub mod Whole

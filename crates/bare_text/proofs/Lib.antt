-- A plan's bare text; a form's line; the lines that a writer leaves.
pub mod BareText
pub mod Lines
pub mod Retained
pub mod Writing

-- The tidy copy and the straightened copy of a text, and what the calls promise of them.
pub mod Copies
pub mod CopyExamples

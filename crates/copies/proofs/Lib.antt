-- The forms that a copy retains; the tidy copy of a text; the straightened one; the calls.
pub mod RetainedForms
pub mod Tidy
pub mod Straight
pub mod Copies
pub mod CopyExamples

-- Passes over the forms of a plan; the layout of its table; the answer of a check by rules.
pub mod Passes
pub mod Laid
pub mod Ruled

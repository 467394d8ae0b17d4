-- The rule of the wiring table, and what stands against a set.
pub mod Powers
pub mod StandAgainst

-- The straightened plan.
pub mod Straight

-- The numbers of a refusal are small, an answer by its cases, the schedule of a verdict, and that an answer can be read back from its number.
pub mod LineBounds
pub mod Counts
pub mod Schedules
pub mod ReadBack

-- What is promised of the search for a cycle.
pub mod Search

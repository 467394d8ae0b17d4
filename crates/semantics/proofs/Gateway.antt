-- Threads beside each other: what a claim excludes, which steps are permitted, what every run keeps, runs and executions.
pub mod Compatible
pub mod Apart
pub mod Steps
pub mod Blocked
pub mod Invariant
pub mod Projection

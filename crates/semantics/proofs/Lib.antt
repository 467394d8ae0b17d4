-- The theory of lock plans, by subject; the file of a folder names its modules in the order of reading. docs/THEORY.md has a map of it, with the lemmas of source 000.
pub mod Ground
pub mod Thread
pub mod Calls
pub mod Gateway
pub mod Critical
pub mod Retreat
pub mod Stuck
pub mod Conflicts
pub mod Analysis
pub mod HoldsOnly

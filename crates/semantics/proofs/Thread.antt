-- One thread by itself: what it has still to do, its steps, its counts, its executions.
pub mod Remainders
pub mod Transitions
pub mod Balance
pub mod HoldEnds
pub mod Execution
pub mod MatchingHold

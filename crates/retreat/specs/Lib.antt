-- The lent tables as paths and masks; the moves of the way back; what the call answers.
pub mod Paths
pub mod Moves
pub mod Answer

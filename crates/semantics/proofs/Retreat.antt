-- A conflict of critical pairs has a deadlock: the way back to a run from the start, and the same over lists and masks, one law for each move.
pub mod JointStates
pub mod RetreatStep
pub mod RetreatRefused
pub mod RetreatJump
pub mod RetreatRun
pub mod RetreatByMasks
pub mod ConflictRun
pub mod RetreatMoves

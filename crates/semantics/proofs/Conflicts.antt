-- A deadlock has a conflict of critical pairs; the test for a conflict, and the whole.
pub mod Conflict
pub mod StuckConflict
pub mod ConflictSearch
pub mod SearchSound
pub mod SearchComplete
pub mod ConflictTest
pub mod Characterisation
pub mod MoreThreads

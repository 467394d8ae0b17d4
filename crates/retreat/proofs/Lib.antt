-- Folds over the threads; what the threads hold; a step back and a jump; the way back as moves of the theory; the stuck set by rounds; the schedule.
pub mod Joins
pub mod HeldLocks
pub mod StepBack
pub mod Landings
pub mod Moves
pub mod StuckRounds
pub mod Schedules

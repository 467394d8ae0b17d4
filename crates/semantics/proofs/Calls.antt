-- Calls between procedures: the masks that are closed over the calls have what is reached; where no procedure reaches itself there are ranks; the masks, joined over the threads,
-- have what is reachable.
pub mod Closure
pub mod Ranks
pub mod Reachable

-- Plans without share keep their answers, written as records: the same runs, stuck sets and schedules, and the same pairs.
pub mod KeptRuns
pub mod KeptPairs

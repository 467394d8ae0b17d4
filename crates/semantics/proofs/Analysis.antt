-- What the analyser computes: sizes cut off at a limit, the path to a pair, joins of masks, cycles of pairs, pairs that can be pruned, the search for a cycle; a test of cases.
pub mod CutOffSizes
pub mod Paths
pub mod Joins
pub mod Cycle
pub mod Pruning
pub mod CycleSearch
pub mod CaseTest

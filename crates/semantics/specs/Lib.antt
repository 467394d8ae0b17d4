-- What a gateway is: plans as trees, calls, sizes, runs, stuck sets, critical pairs, the pairs as source 000 publishes them; what a table of cases says of a plan.
pub mod Claims
pub mod Plan
pub mod Calls
pub mod Sizes
pub mod Run
pub mod Stuck
pub mod Pairs
pub mod Language
pub mod Cases
pub mod HoldsOnly
-- What the analyser computes: what is reached through calls, conflicts of pairs, cycles, the path to a pair, the stuck set by masks, the way back.
pub mod CallMasks
pub mod Execution
pub mod Conflict
pub mod Cycle
pub mod CycleSearch
pub mod Joins
pub mod Pruning
pub mod Paths
pub mod StuckRounds
pub mod Retreat

-- Critical pairs: those that are computed are the critical ones, how they compose, how many there are; they are those of the published definition.
pub mod PairsComplete
pub mod PairsSound
pub mod PairList
pub mod CallPairs
pub mod PairBound
pub mod Traces
pub mod TracesInLanguage
pub mod CriticalLanguage

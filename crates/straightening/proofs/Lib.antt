-- What straightening keeps of a plan: its blocks as they are read, its calls, its measures, its pairs and its freedom from deadlocks, and so the rules.
pub mod Blocks
pub mod Calls
pub mod Measures
pub mod SamePairs
pub mod KeptRules

-- Why the functions meet their contracts: which block the forms of a table begin with, and the walk of a block, a statement at a time.
pub mod Locks
pub mod Blocks
pub mod Buffers
pub mod Walking
pub mod Wanted
pub mod Measure
pub mod PathWritten

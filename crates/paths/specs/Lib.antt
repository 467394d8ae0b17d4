-- What the walk of a procedure writes down, the path that it finds, and the claim that a block makes first.
pub mod Walks
pub mod Wanted

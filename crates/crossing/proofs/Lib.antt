-- The pair lists of two threads; their couples, handed to the caller.
pub mod ThreadLists
pub mod ThreadCouples

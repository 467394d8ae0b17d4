-- What the forms of a procedure cost; the table of sizes, and how it is found; the space that a schedule needs.
pub mod Passes
pub mod Sized
pub mod Space

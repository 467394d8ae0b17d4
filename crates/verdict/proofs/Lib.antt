-- The verdict, from the rules and from the finding over the table.
pub mod Judging

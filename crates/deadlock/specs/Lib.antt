-- What is asked of the table, and what is found.
pub mod Findings

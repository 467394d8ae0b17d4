-- What is asked of the plan and the cycle, what the tables have when some members of the cycle are done, and what they have at the end.
pub mod Tables

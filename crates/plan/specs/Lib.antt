-- The grammar of plans; where a form may stand, and the same as the grammar has it; the limits; the rules in checking order; a form as a code in a table; what the rules settle;
-- where procedures begin.
pub mod Grammar
pub mod Structure
pub mod Places
pub mod Limits
pub mod Rules
pub mod Table
pub mod Settled
pub mod Starts
pub mod Shareless

-- Refusals one after the other, and the first rule broken; the same in the file; the first number of which something holds.
pub mod Order
pub mod InFile
pub mod Firsts
-- Rule 3.
pub mod Readable
-- Rule 5: what is counted, the brackets that are open, the machine of rule 4 at each form. Rules 5 to 8.
pub mod Counting
pub mod Depth
pub mod Reading
pub mod Scan
pub mod Limits
-- Rules 12, 13 and 9.
pub mod Lowest
pub mod ProcRules
-- All rules.
pub mod Refusals
pub mod Accepted
-- The depth to which calls are followed.
pub mod CallDepth
-- The reference cases.
pub mod Examples

-- The tree of a plan and its forms.
pub mod ClaimForms
pub mod Trees
-- The machine of rule 4.
pub mod States
pub mod Accepts
pub mod Denotes
pub mod FirstMisplaced
-- Rules 5 to 8, and the rules of procedures.
pub mod Counting
pub mod Kept
pub mod Sound
pub mod Allowed
pub mod Lowest
pub mod Ranked
pub mod ReachableProcs
pub mod WithinSize
-- A form as a code in a table, and the table while it is filled.
pub mod Codes
pub mod Filling
pub mod AcceptedTable
-- Texts without share keep their answers.
pub mod WithoutShares
-- Rule 14, of two threads.
pub mod TwoThreads
-- The laws that the proofs of the functions cite.
pub mod Passes

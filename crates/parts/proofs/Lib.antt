-- The laws that the proofs of the functions cite; parts of a text that are whole lines, by the forms that they spell; the forms of a procedure.
pub mod Turns
pub mod WholeLines
pub mod Spans
pub mod ProcForms

-- The lines of a procedure in the text of its plan.
pub mod ProcText

-- The lines of a procedure, and that they are its forms.
pub mod ProcText

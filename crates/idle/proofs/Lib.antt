-- What the proof of rule 13 cites: the test of a procedure.
pub mod IdleProcs

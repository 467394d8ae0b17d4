-- Couples of pairs that cross: what they are, and those of two threads of a plan; in a lent buffer; and pairs in a list of words.
pub mod Couples
pub mod Fitting
pub mod Records

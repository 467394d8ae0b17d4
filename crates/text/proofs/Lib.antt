-- A match on forms; forms and the lines in which they are written; texts cut into lines; what is passed over; the forms that lines spell and the lines in which they
-- stand; a text read line after line.
pub mod Matches
pub mod Written
pub mod Cuts
pub mod Passing
pub mod Splits
pub mod FormLines
pub mod Reading

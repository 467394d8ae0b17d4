-- Forms, their kinds and how they are written; the kind of a line; the lines of a text and what is passed over; worked lines and texts.
pub mod Forms
pub mod Kinds
pub mod Lines
pub mod Passing
pub mod Examples

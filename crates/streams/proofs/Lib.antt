-- How many bytes of a buffer were read; that every part of a report is printed.
pub mod Printing

-- That every part of what is printed of two threads is printed.
pub mod Printing

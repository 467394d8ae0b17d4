-- Insertion, the numbers of a table, the pairs collected from it form by form, that these are the pairs of the tree, and their words.
pub mod Insertion
pub mod Numbers
pub mod Collecting
pub mod Additions
pub mod Trees
pub mod Lists
pub mod Words

-- The report on a text; the tables that it is written from.
pub mod Report
pub mod Tables

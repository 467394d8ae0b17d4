-- The rules in checking order.
pub mod Checked

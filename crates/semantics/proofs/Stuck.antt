-- The largest stuck set, by rounds and by masks.
pub mod LargestStuck
pub mod Closing

-- A buffer while numbers are written into it as bytes, for any width.
pub mod LittleEndian

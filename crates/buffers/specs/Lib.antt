-- Numbers as bytes.
pub mod LittleEndian

-- Forms and their lines; what each rule means, and a text that keeps them all; that sizes and pairs follow the calls; the reference cases as texts.
pub mod Lines
pub mod Broken
pub mod CallDepth
pub mod Examples

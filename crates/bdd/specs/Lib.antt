pub mod Diagram
pub mod Difference
pub mod code

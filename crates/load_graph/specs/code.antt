pub mod Building
pub mod Slices

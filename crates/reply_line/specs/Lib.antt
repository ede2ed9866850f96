pub mod Line
pub mod code

pub mod Run
pub mod Cards
pub mod code

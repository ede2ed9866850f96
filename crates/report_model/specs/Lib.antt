pub mod Report
pub mod Cards

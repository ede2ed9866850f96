pub mod Truth
pub mod Settings
pub mod Distinct
pub mod Parts
pub mod Steps
pub mod Cards

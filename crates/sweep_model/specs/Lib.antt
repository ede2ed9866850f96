pub mod State
pub mod Normalise
pub mod Choices
pub mod Fit
pub mod Sweep
pub mod Claims
pub mod Cards
pub mod code

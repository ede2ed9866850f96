pub mod From
pub mod Functions
pub mod Good
pub mod Grown
pub mod Held
pub mod Paired
pub mod Valued

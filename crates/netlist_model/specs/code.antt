pub mod Passing
pub mod Accepted

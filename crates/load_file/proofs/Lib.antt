pub mod FileLoading
pub mod Passing

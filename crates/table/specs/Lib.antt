pub mod Accepted
pub mod Fits
pub mod Limits
pub mod Refusals
pub mod Table
pub mod Values

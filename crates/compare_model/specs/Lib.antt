pub mod Claims
pub mod Compare
pub mod Demand1
pub mod Demand2
pub mod Passed
pub mod Said
pub mod Lent

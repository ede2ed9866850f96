pub mod Claims
pub mod Demand3
pub mod Complete
pub mod Evaluated
pub mod FromFiles
pub mod Cards
pub mod Example
pub mod Printed

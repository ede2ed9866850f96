pub mod Build
pub mod Load
pub mod Lent
pub mod Loadable
pub mod Cards
pub mod code

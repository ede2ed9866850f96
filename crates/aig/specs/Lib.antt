pub mod Fold
pub mod Literal
pub mod Lookup
pub mod Pairs
pub mod Values

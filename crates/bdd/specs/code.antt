pub mod Rows
pub mod Words
pub mod Owners
pub mod Split
pub mod Store
pub mod Slice
pub mod Walks

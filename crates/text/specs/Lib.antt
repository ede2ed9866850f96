pub mod Bytes
pub mod Decimal
pub mod Numerals
pub mod Split

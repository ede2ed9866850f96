pub mod FirstLiterals
pub mod Naming

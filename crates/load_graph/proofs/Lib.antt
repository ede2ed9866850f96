pub mod Asking
pub mod Starting

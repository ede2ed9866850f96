pub mod Reachable
pub mod Steady

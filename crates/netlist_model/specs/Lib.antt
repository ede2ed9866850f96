pub mod Limits
pub mod Records
pub mod Names
pub mod Netlist
pub mod Check
pub mod Meaning
pub mod Pairing
pub mod code

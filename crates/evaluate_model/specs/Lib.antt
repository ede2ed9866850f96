pub mod Evaluable
pub mod Evaluate
pub mod code

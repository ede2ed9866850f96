pub mod Walk
pub mod Left

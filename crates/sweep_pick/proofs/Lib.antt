pub mod BeginLaws
pub mod PassLaws
pub mod PickLaws

pub mod RunLaws
pub mod CompareLaws

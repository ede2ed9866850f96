pub mod DrawnLaws
pub mod GraphLaws
mod ResolveLaws
pub mod StageLaws
pub mod TakeLaws
pub mod TakesModel

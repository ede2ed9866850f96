pub mod Graph
pub mod Stages
pub mod Takes

pub mod RunLaws
pub mod ProductLaws
pub mod Laws

pub mod BeginModel
pub mod InputLaws
pub mod InputModel
pub mod StartModel

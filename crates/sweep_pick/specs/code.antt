pub mod Begin
pub mod Pick

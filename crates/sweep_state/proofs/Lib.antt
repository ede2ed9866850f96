pub mod DrawModel
pub mod DropModel
pub mod HandLaws
pub mod LookModel
pub mod LongLaws
pub mod NormaliseModel
pub mod TwinModel

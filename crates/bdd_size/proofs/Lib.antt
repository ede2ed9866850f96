pub mod MarkLaws
pub mod SizeLaws

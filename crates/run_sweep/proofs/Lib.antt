pub mod AskedLaws
pub mod InPlaceLaws

pub mod AcceptedLaws
pub mod FitsLaws
pub mod FunctionLaws
pub mod LayoutLaws
pub mod MeaningLaws
pub mod RefusalLaws

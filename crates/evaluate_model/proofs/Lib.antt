pub mod DigitLaws
pub mod EvaluableLaws
pub mod NumberLaws
pub mod ReadyLaws

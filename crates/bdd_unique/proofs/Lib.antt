pub mod ChainLaws
pub mod MakeLaws

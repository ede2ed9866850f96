pub mod Copying
pub mod PairLoading
pub mod TableWords

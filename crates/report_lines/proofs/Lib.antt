pub mod HeadLaws
pub mod PrintingLaws

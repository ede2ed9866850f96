pub mod Cards
pub mod ComparisonLaws
pub mod ReportLaws
pub mod RoomLaws

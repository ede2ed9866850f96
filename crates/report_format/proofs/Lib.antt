pub mod Examples
pub mod LineLaws
pub mod ReportLaws
pub mod StoredLaws

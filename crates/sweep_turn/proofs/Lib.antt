pub mod EndModel
pub mod GoModel
pub mod OpenModel
pub mod ScanModel
pub mod TurnModel
pub mod VisitModel

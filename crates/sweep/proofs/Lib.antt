pub mod SweepModel

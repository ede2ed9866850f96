pub mod MeetModel
pub mod MultiplyModel
pub mod SettleModel

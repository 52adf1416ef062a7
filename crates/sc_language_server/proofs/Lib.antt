pub mod Messages
pub mod RefusalCodes

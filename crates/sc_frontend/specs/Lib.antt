pub mod Refusals
pub mod Rejection
pub mod Texts

pub mod Added
pub mod Cases
pub mod Listed
pub mod Looks

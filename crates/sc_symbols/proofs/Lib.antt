pub mod Added
pub mod Cases
pub mod Topmost
pub mod Types
mod Known
mod NewNames
mod Readings

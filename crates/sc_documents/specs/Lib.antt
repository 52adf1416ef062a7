pub mod Changes
pub mod Documents
pub mod Positions

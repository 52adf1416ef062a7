pub mod Cuts
pub mod Distinct
pub mod Walks

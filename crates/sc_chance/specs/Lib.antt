pub mod Runs
pub mod Sought
pub mod Stages
pub mod Outcomes
pub mod Found

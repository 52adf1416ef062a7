pub mod Openings
pub mod Reports
pub mod Runs

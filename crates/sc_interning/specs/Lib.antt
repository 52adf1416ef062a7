pub mod Chains
pub mod Views
pub mod Tables

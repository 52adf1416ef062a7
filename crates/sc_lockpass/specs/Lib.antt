pub mod Versions
pub mod Rights
pub mod Passing
pub mod Posting
pub mod Tables
pub mod Laws
pub mod wait_conditions

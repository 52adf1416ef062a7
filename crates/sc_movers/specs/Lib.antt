pub mod Kept
pub mod Movers
pub mod Returned

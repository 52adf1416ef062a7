pub mod Movers
pub mod Swept
pub mod Ways
mod WorkedWays
pub mod Orders

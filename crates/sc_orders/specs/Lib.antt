pub mod Edges
pub mod Movers
pub mod Orders
pub mod Ways
pub mod Marks

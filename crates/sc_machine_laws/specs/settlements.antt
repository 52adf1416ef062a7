pub mod Calm
pub mod Clauses
pub mod Entries
pub mod Pure
pub mod Reached
pub mod Started

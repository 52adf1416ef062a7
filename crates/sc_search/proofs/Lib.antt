mod KeptStates
mod Numbers
mod Stores
mod LineTurns
mod OrderEnds
mod Reasons
pub mod TriedTurns
mod Orders
mod Joins
mod Loaded
mod LoadedStates
pub mod Waits
mod IdleHandlers
mod Verdicts
mod Rows
mod Lengths

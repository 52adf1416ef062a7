pub mod KeptLogs
pub mod ReplayedTurns

pub mod Ahead
pub mod FurtherTurns
pub mod MadeTurns
pub mod JobTurns
pub mod Programs
pub mod RefusedJobs
pub mod OneObject

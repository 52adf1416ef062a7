pub mod SettledPicks
pub mod MoreTurns
pub mod AtOnce
pub mod FreeHandlers
pub mod Opening
pub mod Outs
pub mod UnderJob
pub mod Runs
pub mod ReportParts
pub mod KeptWorlds
pub mod TriedTurns
pub mod StoreChanges
pub mod VisibleOperations
pub mod TurnCounts
pub mod AlikeCounts
pub mod PassingCounts
pub mod SettledCounts
pub mod Links
mod LoadedRegions
mod LoadedWorlds
mod UnusedHandlers

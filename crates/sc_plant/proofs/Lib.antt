mod Bare
mod OnWay
mod Crossings
pub mod CutRuns
mod OneThread
mod Openings
mod RunRecords
mod Reports
mod Locks
mod Slots
pub mod EndedRuns
mod Threaded
mod Ordered
mod Unbegun

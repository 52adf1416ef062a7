pub mod ReplayLemmas
pub mod Threads
mod Misfits
mod Turns
mod SameWorlds
mod SameReports
mod Rows
mod AuditRows

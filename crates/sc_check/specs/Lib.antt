pub mod BlockHeads
pub mod purity
pub mod CheckFaults
pub mod CheckedSystems
pub mod CheckedTables
pub mod Internal

pub mod FaultLists
pub mod Internal

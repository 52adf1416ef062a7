pub mod Records
pub mod Faults
pub mod Writing
pub mod Reading
pub mod Laws
pub mod Internal

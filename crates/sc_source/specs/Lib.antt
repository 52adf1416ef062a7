pub mod Files
pub mod Internal
pub mod Joining
pub mod Source

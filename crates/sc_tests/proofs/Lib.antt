pub mod Rights
pub mod Entries
pub mod LockPassing
pub mod References
pub mod Stacks
pub mod Conformances
pub mod Combinations
pub mod Lengths

-- What the tables say of each class.
pub mod Ancestors
pub mod Declared
pub mod Features
pub mod Conformance
pub mod Entities
pub mod ByClass
pub mod Heirs

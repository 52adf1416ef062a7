-- What is at fault in the classes of a system.
pub mod Scopes
pub mod Redefinition
pub mod Limits
pub mod LeftOut
pub mod ClassRules
pub mod FaultList

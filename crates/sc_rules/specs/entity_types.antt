pub mod Tags
pub mod Conformance
pub mod Handlers
pub mod Laws
pub mod Combiners
pub mod Calls
pub mod CallLaws

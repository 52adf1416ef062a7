pub mod Execution
pub mod Misfits
pub mod Audits
pub mod Laws

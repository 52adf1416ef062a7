pub mod Replaying
pub mod LoggedRegions
pub mod Laws

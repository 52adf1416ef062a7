pub mod Members
pub mod Listings
pub mod LawProofs
mod Alike

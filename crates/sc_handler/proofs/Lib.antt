mod SameValues
mod SameLists
mod Sames
mod Packing
mod Entries
mod Places
pub mod ReadAlike

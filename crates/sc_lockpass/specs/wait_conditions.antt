pub mod Entries
pub mod Conditions
pub mod Reservations
pub mod Laws

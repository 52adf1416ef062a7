-- What the search for pure functions does, as the code follows it. Public contracts don't speak of it.
pub mod Effects
pub mod Callers
pub mod Versions
pub mod ImpureSearch

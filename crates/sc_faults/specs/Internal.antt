-- What the walk through a system lists, as the code follows it. Public contracts don't speak of it.
pub mod Adding
pub mod Listing

-- What the walk through a system does, as the code follows it. Public contracts don't speak of it.
pub mod Parts

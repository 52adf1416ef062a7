mod Marks
pub mod Jobs
mod Likes
mod Handlers
mod Counting
mod Settled
mod Centers
pub mod ReadStates
mod HandlerCounts

pub mod Headline
pub mod ThreadsHeadline
pub mod Audited
pub mod Exactly
pub mod Searched
pub mod Everywhere

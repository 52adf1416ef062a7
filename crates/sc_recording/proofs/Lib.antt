mod Bared
pub mod Comparisons
pub mod Dues
pub mod Endings
pub mod PuttingBack
mod SameHandlers

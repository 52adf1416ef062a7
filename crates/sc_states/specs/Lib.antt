pub mod Hashes
pub mod Cuts
pub mod Distinct
pub mod RowViews
pub mod Orders
pub mod Views

pub mod DoneHandlers
pub mod TestLists

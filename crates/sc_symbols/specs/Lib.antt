pub mod Scopes
pub mod Mentions
pub mod Texts
pub mod Uses
pub mod Renaming
pub mod Internal

pub mod Names
pub mod ClassNames
pub mod View
pub mod SystemIn
pub mod Tables
pub mod Faults
pub mod Internal
pub use Rattle.sc_tree.specs.Plain

pub mod Asked
pub mod Internal
pub mod RootOption
pub mod Usage
pub mod Words

pub mod Growing
pub mod Pools
pub mod Origins
pub mod Lowerings
pub mod AttributeBindings
pub mod ClassCodes
pub mod Fitting
pub mod Formulas

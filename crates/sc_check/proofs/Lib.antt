pub mod Behind
pub mod BlockSteps
pub mod CreationSteps
pub mod InstructionSteps
pub mod Judgements
pub mod ClassSteps
pub mod FormulaSteps
pub mod DeclarationSteps

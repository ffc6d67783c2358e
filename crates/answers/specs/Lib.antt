pub mod Names
pub mod Entailment
pub mod Selections
pub mod Questions
pub mod Explanations
pub mod Conditions
pub mod Findings
pub mod Neighbours

pub mod Theorems
pub mod Acceptance
pub mod ListedInterpretation
pub mod ListedTheorems
pub mod Derivability
pub mod Trimming
pub mod DerivationTheorems

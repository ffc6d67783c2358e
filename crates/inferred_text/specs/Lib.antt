pub mod Inferred
pub mod Theorems

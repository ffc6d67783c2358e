pub mod GeneratedPart
pub mod Theorems
pub mod Elements
pub mod Search
pub mod Part

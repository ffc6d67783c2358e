pub mod Entailment
pub mod Claims
pub mod Tests
pub mod Parts
pub mod FactCounts
pub mod Testers

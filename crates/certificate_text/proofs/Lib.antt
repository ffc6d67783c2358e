pub mod Distances
pub mod FoundRuns
pub mod Earlier
pub mod Individuals
pub mod Seen
pub mod LineTexts
pub mod Conversions
pub mod Decimals

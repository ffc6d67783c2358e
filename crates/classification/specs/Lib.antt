pub mod Contradiction
pub mod Lists
pub mod Classifications
pub mod Findings

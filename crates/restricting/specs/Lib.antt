pub mod Reports
pub mod Restrictions
pub mod Runs
pub mod Theorems

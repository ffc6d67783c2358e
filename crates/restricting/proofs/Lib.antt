pub mod Lined
pub mod Restricted
pub mod RestrictedRuns

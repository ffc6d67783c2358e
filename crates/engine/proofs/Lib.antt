pub mod Saying
pub mod Saturating
pub mod GrownSaturations
pub mod Counting
pub mod NothingNew

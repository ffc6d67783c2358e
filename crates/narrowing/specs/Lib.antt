pub mod FoldedListing
pub mod Cut
pub mod Points
pub mod Gathered
pub mod Marked
pub mod Narrowed
pub mod Renumbered

pub mod Relations
pub mod Chains
pub mod Growth
pub mod PropertyClosures

pub mod Saturations
pub mod Closed

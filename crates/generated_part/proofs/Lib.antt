pub mod Keeping
pub mod Rows
pub mod Choosing
pub mod Parts
pub mod Made

pub mod Devices
pub mod Progress
pub mod Messages
pub mod Printing

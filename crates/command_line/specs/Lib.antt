pub mod CommandLine
pub mod Receiver

pub mod Contents
pub mod MemoryFiles

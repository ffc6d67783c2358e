pub mod OneSubclass

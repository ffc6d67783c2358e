pub mod Told
pub mod Joined
pub mod Printed
pub mod Telling
pub mod OneOntology

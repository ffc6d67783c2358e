pub mod LineText
pub mod LaterPremises
pub mod Conversions

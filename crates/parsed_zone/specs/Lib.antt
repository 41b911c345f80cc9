pub mod Applied
pub mod Classes
pub mod Faults
pub mod ParsedZone
pub mod ZoneText

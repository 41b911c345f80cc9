pub mod AppliedLines
pub mod TextLemmas
pub mod ZoneMaps

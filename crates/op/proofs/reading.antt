-- Messages that are read.
pub mod AddsMessage
pub mod BufferLemmas
pub mod HeaderReading
pub mod MessageFaults
pub mod MessageNames
pub mod MessageStands
pub mod PlainSections
pub mod QueryLemmas
pub mod ReadFits
pub mod SectionFaults
pub mod SectionLemmas
pub mod SectionStands
pub mod SectionWords

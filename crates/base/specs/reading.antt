-- What is read of a message (RFC 1035, 4.1), and what a decoder keeps.
pub mod Faults
pub mod Many
pub mod NameFault
pub mod Names
pub mod Passing
pub mod Pieces
pub mod PointerLemmas
pub mod Pointers
pub mod Reader
pub mod Reading
pub mod Spelling
pub mod Tracks

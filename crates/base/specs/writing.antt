-- What is written of a value, and what an encoder keeps.
pub mod AppendError
pub mod Compression
pub mod Items
pub mod Laws
pub mod Says
pub mod SaysName
pub mod SaysParts
pub mod State
pub mod Suffixes
pub mod Wire
pub mod Written

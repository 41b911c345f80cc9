-- Zone text (RFC 1035, 5.1): its tokens, and what the texts of names and TTLs say.
pub mod Cuts
pub mod NameOf
pub mod NameText
pub mod TextChar
pub mod TextFaults
pub mod TokenList
pub mod TokenText
pub mod Tokens
pub mod Ttl
pub mod TtlText

-- Equalities and orders of messages and their parts.
pub mod EdnsEquals
pub mod Equals
pub mod MessageEquals
pub mod Orders
pub mod QueryEquals
pub mod VariantLemmas

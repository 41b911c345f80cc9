pub mod IndexedLemmas
pub mod Refusing
pub mod names
pub mod reading
pub mod texts
pub mod writing

-- Names: their labels, their orders, and what lies below one.
pub mod BelowLemmas
pub mod CompareLemmas
pub mod FrontLemmas
pub mod KeyLemmas
pub mod LabelLemmas
pub mod WildcardLemmas

-- Names and values that are read, and the labels that are kept of names.
pub mod CacheLemmas
pub mod CountLemmas
pub mod GatherLemmas
pub mod ManyLemmas
pub mod NameLemmas
pub mod NamesLemmas
pub mod PassLemmas
pub mod PieceLemmas
pub mod ReadLemmas
pub mod ReadingLemmas
pub mod SpellingLemmas
pub mod TargetLemmas
pub mod TrackLemmas
pub mod WalkLemmas

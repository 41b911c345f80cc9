-- What is written, where it stands, and which suffixes are stored.
pub mod CellLemmas
pub mod CompressionLemmas
pub mod EightLemmas
pub mod FirstLemmas
pub mod FittingLemmas
pub mod ItemLemmas
pub mod KeyLemmas
pub mod LawLemmas
pub mod LongestLemmas
pub mod PatchLemmas
pub mod SaysLemmas
pub mod SliceLemmas
pub mod SuffixLemmas
pub mod TableLemmas
pub mod WrittenLemmas

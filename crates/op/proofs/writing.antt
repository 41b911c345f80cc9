-- Messages that are written.
pub mod AnswerLemmas
pub mod CutOf
pub mod CutWords
pub mod EdnsLemmas
pub mod EmittedLemmas
pub mod FrontLemmas
pub mod HeaderRoom
pub mod LineLemmas
pub mod MessageWrittenLemmas
pub mod OwnerLemmas
pub mod PartLemmas
pub mod RoomLemmas
pub mod RunLemmas
pub mod SortLemmas
pub mod UncutLemmas
pub mod WordsBack

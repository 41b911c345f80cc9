pub mod AnswerLaws
pub mod BitLemmas
mod CodeLemmas
mod StripLemmas
pub mod equality
pub mod reading
pub mod writing

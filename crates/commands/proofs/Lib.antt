mod ApplyLemmas
mod CutLemmas
mod InputLemmas
mod LimitLemmas
mod RunLemmas
mod WordLemmas
pub mod ZoneLemmas

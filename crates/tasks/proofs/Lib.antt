mod AppliedText
mod CheckLemmas
mod MessageLemmas
mod MnemonicLemmas
pub mod RefusalLemmas
mod ReplyLemmas
mod ResponseLemmas
mod SentLemmas
mod SoundLemmas
mod TextLemmas
mod WalkLemmas

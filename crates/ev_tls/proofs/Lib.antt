mod TestLemmas
mod PushLemmas
mod KnownLemmas
mod PlaceLemmas
mod WaitingLemmas
mod CompleteLemmas
mod ProgressLemmas
mod LookLemmas
mod StateLemmas
mod QuietLemmas
mod UnguardedLemmas
pub mod ShallowLemmas
pub mod SealLemmas
pub mod ToldLemmas
pub mod TextLemmas
pub mod TellingLemmas
pub mod MadeLemmas
pub mod KeyLemmas
pub mod SealedLemmas

pub mod DeviceLemmas
pub mod TableLemmas
pub mod FilledLemmas
pub mod ReadingLemmas
pub mod ListLemmas
pub mod ReachLemmas
pub mod SoundLemmas

pub mod Classes
pub mod Alike
pub mod Extracting
pub mod Showing
pub mod Topmost
pub mod GivenLemmas
pub mod OneText

pub mod Again
pub mod FlatNetlist
pub mod Headline
pub mod Merged

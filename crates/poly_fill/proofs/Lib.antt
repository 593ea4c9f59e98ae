pub mod EdgeSums
pub mod Walks
pub mod Widened
pub mod Outlined

pub mod Sound
pub mod Partnered
pub mod Chained
pub mod Answering
pub mod Faults
pub mod Widths

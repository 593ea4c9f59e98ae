pub mod Turning
pub mod Moving
pub mod Images
pub mod Spans
pub mod Meeting

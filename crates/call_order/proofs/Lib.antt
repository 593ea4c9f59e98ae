pub mod Reach
pub mod Rings
pub mod Steps
pub mod Calls
pub mod Closing
pub mod Leave
pub mod Results

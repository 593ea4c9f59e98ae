pub mod Badness
pub mod Corners
pub mod Tabled
pub mod Pinned
pub mod Drawing
pub mod Circuited
pub mod Naming
pub mod Sound

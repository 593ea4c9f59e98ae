pub mod Held
pub mod Collecting
pub mod Looking
pub mod Grounds
pub mod Numbering
pub mod Standing
pub mod Assembling

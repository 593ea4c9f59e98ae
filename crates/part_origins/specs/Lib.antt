pub mod Inside
pub mod Kept
pub mod Parts
pub mod Nets
pub mod Made
pub mod Origins
pub mod Source
pub mod Laws

pub mod Sizes
pub mod Alike
pub mod Going
pub mod Joined
pub mod Parted
pub mod Few
pub mod Alone

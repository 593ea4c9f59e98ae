pub mod Alone
pub mod Going
pub mod Laws
pub mod Limit
pub mod Seen

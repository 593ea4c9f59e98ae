pub mod Places
pub mod Reaching
pub mod Long
pub mod Least
pub mod Fitting
pub mod Furthest
pub mod Outside
pub mod Joined

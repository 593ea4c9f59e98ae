pub mod Logs
pub mod Same
pub mod Labels

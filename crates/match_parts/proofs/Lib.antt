pub mod Marked
pub mod Fitted
pub mod Read
pub mod Listed

pub mod Written
pub mod Wide
pub mod Writable

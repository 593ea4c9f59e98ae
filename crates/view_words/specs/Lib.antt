pub mod Words
pub mod Reading
pub mod Numbers
pub mod Steps
pub mod Laws

mod Adding
mod Showing
mod Bounding
mod Reading

mod WordLemmas
mod Refusing
mod Leaving
pub mod ToldLemmas
mod Marking
mod Walking
mod Plans
mod Rows
mod SameRows
mod SameReading
mod SameMeaning
mod PlainFile

mod Bools
mod PlainWords
mod QuotedWords
mod WordLaws
mod StepLaws
mod Joins
pub mod Rows

mod Ranges
mod Small
mod Joins

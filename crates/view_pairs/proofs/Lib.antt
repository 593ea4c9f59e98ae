mod Claims
mod Firsts
mod Keying
mod Shown
mod Sureness
mod Whole
mod Marked

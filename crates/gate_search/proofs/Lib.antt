pub mod Gathering
pub mod Searching
pub mod Rounds
pub mod KeptBoth

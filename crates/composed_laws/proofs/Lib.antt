pub mod Slots
pub mod Pairs
pub mod PinLists
pub mod Fitting
pub mod Answered
pub mod OneByOne
pub mod Matching

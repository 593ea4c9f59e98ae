pub mod Pieces
pub mod Wanted
pub mod Shown
pub mod ReadLaws

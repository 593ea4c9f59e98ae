pub mod Web
pub mod Nodes
pub mod Rounds
pub mod Guesses
pub mod Colours
pub mod Stack
pub mod Parting
pub mod Renamed

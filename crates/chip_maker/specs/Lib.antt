pub mod Inverters
pub mod Layout
pub mod Stream
pub mod Rules
pub mod Schematic

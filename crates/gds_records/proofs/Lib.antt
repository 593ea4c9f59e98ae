pub mod Frame
pub mod OneReading

pub mod Trees
pub mod Tops
pub mod Numbers
pub mod Pushes

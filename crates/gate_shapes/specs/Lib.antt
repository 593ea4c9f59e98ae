pub mod Sets
pub mod Borders
pub mod Plain
pub mod Contacts
pub mod PartLists
pub mod Sorted
pub mod Shapes
pub mod LookLaws

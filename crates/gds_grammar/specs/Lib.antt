pub mod Pattern
pub mod Grammar
pub mod Left
pub mod Order

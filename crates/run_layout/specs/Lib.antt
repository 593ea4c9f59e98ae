pub mod Far
pub mod RunLayout

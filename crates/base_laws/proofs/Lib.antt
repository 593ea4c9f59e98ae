pub mod Tests
pub mod Items
pub mod Lists

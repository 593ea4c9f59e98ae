pub mod Flat
pub mod Lists
pub mod Cut
pub mod Words
pub mod Aligned
pub mod Partners
pub mod Sample

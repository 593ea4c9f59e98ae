pub mod NameLemmas
pub mod Formed
pub mod DeviceRows
pub mod NumberLemmas
pub mod ValueLemmas

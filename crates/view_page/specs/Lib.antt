pub mod Devices
pub mod Subjects
pub mod Remarks
pub mod Told
pub mod Notes
pub mod Counts
pub mod Page
pub mod Made

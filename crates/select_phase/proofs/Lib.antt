pub mod Regions
pub mod Calmness
pub mod OnePart
pub mod SortedParts
pub mod Zoning
pub mod Lifting
pub mod Walking
pub mod Readiness

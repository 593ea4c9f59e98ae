pub mod FirstLemmas
pub mod CallLemmas
pub mod FaultLemmas
pub mod CheckLemmas
pub mod Shapes

pub mod BadLaws
pub mod HullLaws
pub mod TableLaws
pub mod NameLaws

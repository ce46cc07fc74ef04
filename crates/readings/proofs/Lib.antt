pub mod Left
pub mod Takes
pub mod Whole

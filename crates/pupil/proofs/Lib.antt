pub mod Short
pub mod Shows

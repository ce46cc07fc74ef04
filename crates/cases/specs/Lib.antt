pub mod Cases
pub mod Each

pub mod Added
pub mod Forms
pub mod Lines
pub mod Times

pub mod Cells
pub mod Codes
pub mod Moved
pub mod Placing

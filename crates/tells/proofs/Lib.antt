pub mod Listings
pub mod Pages
pub mod Told
pub mod Unique

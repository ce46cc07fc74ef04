pub mod Beginnings
pub mod Copies
pub mod Lessons
pub mod Listings
pub mod Tellings
pub mod Unique

pub mod Touching
pub mod Running
pub mod Listing

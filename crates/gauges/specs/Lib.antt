pub mod Layering
pub mod Reach
pub mod Tents
pub mod TentLaw
pub mod Made

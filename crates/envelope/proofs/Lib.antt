pub mod Lowest
pub mod Roofs
pub mod Walks
pub mod Views

pub mod Pieces
pub mod Lines
pub mod Orders
pub mod Scripts
pub mod Theorems

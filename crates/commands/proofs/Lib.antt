pub mod Cuts
pub mod Reading
pub mod Lines
pub mod Parts
pub mod Rejoins
pub mod Written

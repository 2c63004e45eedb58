pub mod Walked
pub mod Proved

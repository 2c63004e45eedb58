pub mod Heads
pub mod Touches
pub mod Bounds

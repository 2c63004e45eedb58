mod Rounding
pub mod Shown

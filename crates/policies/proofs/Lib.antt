pub mod Texts
pub mod Highs
pub mod Closings

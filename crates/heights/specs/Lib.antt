pub mod Heights
pub mod Extremes
pub mod Verdicts
pub mod Lists
pub mod Theorems

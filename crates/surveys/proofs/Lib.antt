pub mod Sound
pub mod Aims
pub mod Steps
pub mod Moments
pub mod Later
pub mod Search
pub mod Figures
pub mod Whole

pub mod Numbers
pub mod States
pub mod Calls
pub mod Moments
pub mod Laws
pub mod Example

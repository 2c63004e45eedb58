pub mod Tellings
pub mod Given
pub mod Bounded
pub mod Talks
pub mod Words
pub mod Examples

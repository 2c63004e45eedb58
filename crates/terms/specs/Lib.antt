pub mod Limits
pub mod Faults
pub mod Refusals
pub mod Meaning
pub mod Texts

pub mod Layout
pub mod Verdict
pub mod Steps
pub mod Theorem

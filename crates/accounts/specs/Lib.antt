pub mod Lines
pub mod Reports
pub mod Failures
pub mod Packings

pub mod Lines
pub mod Probes
pub mod Policies

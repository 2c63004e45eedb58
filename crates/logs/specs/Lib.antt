pub mod Settings
pub mod Logs

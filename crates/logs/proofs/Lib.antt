pub mod Tables
pub mod Aiming

pub mod Leads
pub mod Fills
pub mod Repacks

pub mod Summaries
pub mod Entries
pub mod Packs

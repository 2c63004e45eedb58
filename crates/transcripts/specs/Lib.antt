pub mod Entries
pub mod Told
pub mod Transcripts
pub mod Talks

pub mod Seeking
pub mod Working

pub mod Digits
pub mod Firsts
pub mod Runs
pub mod Heights

pub mod Stacks
pub mod Said

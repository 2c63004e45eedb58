pub mod Layers
pub mod Multiples
pub mod Laws
pub mod Examples

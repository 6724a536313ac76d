pub mod Waiting
pub mod Refusing
pub mod Staying

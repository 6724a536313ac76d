pub mod Holding
pub mod Masking

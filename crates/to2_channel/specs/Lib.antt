pub mod Side
pub mod Vectors
pub mod View

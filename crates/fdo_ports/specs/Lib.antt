pub mod Count
pub mod Told
pub mod MemoryObjects
pub mod Draw
pub mod Host
pub mod Stream

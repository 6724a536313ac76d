pub mod Count
pub mod Scheduled
pub mod Told

pub mod Ends
pub mod Tellings

pub mod Records
pub mod Areas
pub mod Changing
pub mod Found

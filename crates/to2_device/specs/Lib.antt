pub mod Credential
pub mod Lent
pub mod Steps
pub mod Told
pub mod Hearing
pub mod Stopping
pub mod Views

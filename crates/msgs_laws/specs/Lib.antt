pub mod Claims
pub mod Payloads
pub mod Redirect

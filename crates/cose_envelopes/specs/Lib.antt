pub mod Asking
pub mod Envelope
pub mod Fault
pub mod Opening
pub mod Places
pub mod Text

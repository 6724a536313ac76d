pub mod Again
pub mod Asking
pub mod Lasts
pub mod Lines

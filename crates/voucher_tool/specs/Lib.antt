pub mod Check
pub mod Longer
pub mod Received
pub mod Refusal
pub mod Show

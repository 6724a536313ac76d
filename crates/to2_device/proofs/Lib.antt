pub mod Replies
pub mod Stepping
pub mod Walking
pub mod Signing

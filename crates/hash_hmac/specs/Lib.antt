pub mod Bytes
pub mod Kind
pub mod Value
pub mod Hashing
pub mod Hmac
pub mod Session

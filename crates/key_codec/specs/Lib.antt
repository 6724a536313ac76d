pub mod Fault
pub mod Hash
pub mod Key
pub mod Parts
pub mod Places
pub mod SigInfo

pub mod DeviceModule
pub mod Received
pub mod Receiver
pub mod Sent
pub mod Stage

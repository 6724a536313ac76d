pub mod Keys
pub mod Map
pub mod Finding
pub mod Laws

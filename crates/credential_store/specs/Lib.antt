pub mod Parts
pub mod Body
pub mod Image
pub mod Store
pub mod Reserved
pub mod Loading

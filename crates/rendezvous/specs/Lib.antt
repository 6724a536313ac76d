pub mod Carrying
pub mod RvState

pub mod Few
pub mod RvBack
pub mod ByStrength

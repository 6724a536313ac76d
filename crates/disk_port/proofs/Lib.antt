pub mod Gates
pub mod Histories
pub mod Left
pub mod OneSlot
pub mod Picks
pub mod Stepping
pub mod TwoSlots
pub mod Written

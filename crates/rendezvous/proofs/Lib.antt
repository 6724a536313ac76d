pub mod GivingUp
pub mod Leaving
pub mod Touching

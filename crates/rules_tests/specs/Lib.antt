pub mod Toy
pub mod Rendezvous
pub mod Client

pub mod Heads
pub mod Making
pub mod Delivering
pub mod Queueing

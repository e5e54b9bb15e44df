pub mod Deferring
pub mod PuttingOff

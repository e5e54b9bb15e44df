pub mod Incoming
pub mod Progress
pub mod Answering
pub mod Arrives
pub mod Lines
pub mod EventLoop

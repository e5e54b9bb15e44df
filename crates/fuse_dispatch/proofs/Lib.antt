pub mod Serving
mod Judging
mod Deferring
pub mod Answering
mod Forgetting

pub mod Matching
pub mod Bookkeeping
pub mod Determined
pub mod LateFrames
pub mod Balancing
pub mod Outgoing

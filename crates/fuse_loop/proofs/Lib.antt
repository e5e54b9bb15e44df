pub mod ItemLists
pub mod Taking
pub mod Moving
pub mod Quieting
pub mod FrameLines
pub mod Order
pub mod LoopSteps
pub mod Adding

pub mod Hand
pub mod Laws
pub mod LineRule
pub mod Permits
pub mod Seen
pub mod Tells

pub mod Tree
pub mod ReadOnly

pub mod Tree
pub mod Generated
pub mod Store

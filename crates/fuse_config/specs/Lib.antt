pub mod Values
pub mod Configuration
pub mod Setters
pub mod Options
pub mod Conflicts
pub mod Access

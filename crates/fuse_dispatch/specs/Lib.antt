pub mod Promise
pub mod Verdict
pub mod Kind
pub mod Defaults
pub mod Found
pub mod OwedMessage
pub mod Asked
pub mod Decided

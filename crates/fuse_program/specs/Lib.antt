pub mod Form
pub mod Status
pub mod Program
pub mod Generated
pub mod Load

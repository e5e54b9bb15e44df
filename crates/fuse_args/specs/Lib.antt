pub mod Arguments
pub mod DeviceParts
pub mod FileParts
pub mod NodeParts

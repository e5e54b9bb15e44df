pub mod PowersOfTen
pub mod Fronts
pub mod ConflictLaws
pub mod ReadBack

pub mod Notepad
pub mod OneFile

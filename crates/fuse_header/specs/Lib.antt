pub mod Asker
pub mod Header
pub mod Opcode
pub mod ErrorText

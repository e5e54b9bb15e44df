mod Places
mod Pairing
mod Relaying
mod Hearing
mod ServingAlone
mod Working
pub mod Accounts
mod Conducting
mod Assembling
mod Splitting
mod Starting
mod LateReplies

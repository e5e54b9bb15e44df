mod HandshakeSteps
pub mod Refusing
mod Serving
mod Exchanging
mod Headlining
mod Completing
mod SessionParts
mod Opening
mod Handing

pub mod Lines
pub mod Blocks
pub mod Standard
pub mod Limits
pub mod Outcome
pub mod Laws

pub mod Field
pub mod Cause
pub mod Block
pub mod Hand
pub mod Code

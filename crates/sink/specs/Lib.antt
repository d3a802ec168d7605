pub mod Answer
pub mod Numeral
pub mod Chain
pub mod Capped
pub mod Codes

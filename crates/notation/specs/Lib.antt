pub mod Quoted
pub mod Transcript
pub mod Kept
pub mod End

pub mod Table
pub mod Ranges
pub mod Whole
pub mod Related
pub mod Valid
pub mod Kept
pub mod Passes
pub mod Through

pub mod Line
pub mod Text
pub mod Reader
pub mod Code
pub mod Print

pub mod Reading
pub mod Places
pub mod Asking
pub mod Rule

pub mod Lines
pub mod Items
pub mod Unquoted
pub mod Texts
pub mod Events
pub mod Code
pub mod Laws

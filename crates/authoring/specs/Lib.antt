pub mod Stream
pub mod Told
pub mod Laws

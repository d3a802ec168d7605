pub mod Standard
pub mod Machine
pub mod Code
pub mod Relation
pub mod Laws

pub mod Scan
pub mod Boundary
pub mod Sent
pub mod Laws
pub mod Worked

pub mod Cuts
pub mod Within
pub mod Back

pub mod Clipping

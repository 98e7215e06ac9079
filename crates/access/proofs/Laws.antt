pub mod Reaching
pub mod Viewing
pub mod Writing

pub mod Bounds
pub mod Places
pub mod Called
pub mod Ready

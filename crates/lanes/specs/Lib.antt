-- The bytes of four, and what holds of them.
pub mod Lanes
pub mod Laws

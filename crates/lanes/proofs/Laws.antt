-- Reads and stores side by side.
pub mod Lanes

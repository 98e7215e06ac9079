pub mod Bench
pub mod Refusals
pub mod Drawers
pub mod Sweeps

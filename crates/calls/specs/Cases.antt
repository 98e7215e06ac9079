-- Computed cases: document 01's, every cell of the refusal table, one cabinet byte by byte, and sweeps.
pub mod Bench
pub mod Refusals
pub mod Drawers
pub mod Sweeps

-- Computed cases.
pub mod Points

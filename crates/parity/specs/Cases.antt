-- Computed cases.
pub mod Folds

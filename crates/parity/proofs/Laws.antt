-- The laws of a new parity stored part by part, and of each of the two folds.
pub mod Replace
pub mod Modify
pub mod Fold

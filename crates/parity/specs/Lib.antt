-- What a fold leaves, and what stands in each piece of it.
pub mod Fold
pub mod Cases

pub mod Cases
pub mod Laws
pub mod Theorem
pub mod ReadBack

-- Which view it is, and where it begins. What the calls answer and leave is crate `calls`.
pub mod Viewing
pub mod Theorem

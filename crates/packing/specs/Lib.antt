-- What the functions answer, as a number.
pub mod Number
pub mod Theorem

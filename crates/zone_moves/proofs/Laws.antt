-- The laws of the definitions, from the bottom.
pub mod Storing
pub mod Digits
pub mod Decimals
pub mod Fields
pub mod Lines
pub mod Indices
pub mod Answers
pub mod Reading

-- Bytes only: scan points packed and unpacked, what the two calls answer and leave, and what is proved of them.
pub mod Points
pub mod Answer
pub mod Part
pub mod Theorem
pub mod Cases

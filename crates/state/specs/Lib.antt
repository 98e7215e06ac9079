-- The record: which ones are good, its bytes, those that calls leave, and what is proved of them (`Theorem`).
pub mod Good
pub mod Bytes
pub mod Update
pub mod Theorem

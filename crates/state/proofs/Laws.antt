-- The laws of the definitions, from the bottom.
pub mod Good
pub mod Bytes

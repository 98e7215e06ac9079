-- Bytes only: a block within a list of bytes, numbers of several bytes, the xor of blocks, and the places of a stripe within the images.
pub mod Block
pub mod Number
pub mod Xor
pub mod Stripe
pub mod Sum
pub mod Theorem

-- The laws of the definitions, from the bottom, and of the kinds of loops.
pub mod Block
pub mod Number
pub mod Xor
pub mod Rows
pub mod Grid
pub mod Stripe
pub mod Fill
pub mod Summed
pub mod Zero

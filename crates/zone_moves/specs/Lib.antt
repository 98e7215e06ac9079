pub mod Decimal
pub mod Request
pub mod Listing
pub mod Exact

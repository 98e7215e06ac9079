pub mod Formatting
pub mod Growing
pub mod Advancing

pub mod Failing
pub mod Rebuilding

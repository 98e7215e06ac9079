-- The laws of the definitions: each step of the two ways, and what stands where in its list; and the loops of each way.
pub mod Ways
pub mod Elements
pub mod Answer
pub mod Unpack
pub mod Pack

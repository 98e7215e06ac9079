-- Demand 3. `Flat` is the flat list, `Lent` what may be lent, `Theorem` the one claim about every list of calls and its short
-- form, `ReadBack` what it says of reads in the mills' words, `Cases` a history computed through both machines.
pub mod Flat
pub mod Lent
pub mod Theorem
pub mod ReadBack
pub mod Cases

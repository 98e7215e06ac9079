-- What a call does to the flat list; the array and the flat list, call by call; the sum of the moves; two disks out; the claim of each call, on bytes and on records; what may be lent; a test of fairness; what is claimed of each call of a fair history.
pub mod Look
pub mod Step
pub mod Tally
pub mod Lost
pub mod Last
pub mod Claim
pub mod Records
pub mod Lending
pub mod Fairness
pub mod Run

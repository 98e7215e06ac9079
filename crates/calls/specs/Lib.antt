-- The calls, in document 01's order: what each is given, what the health of an array means for a place, the images and the stores into
-- them, the table of refusals, when a stripe is sound, and what each call answers and leaves. `Theorem`, `Numbered`, `Absent`, `Stores`,
-- `Alone`, `Acts` and `Sweep` say what is proved of every single call; what is proved of every list of them is crate `history`. `Cases` are
-- computed, and need not be believed.
pub mod Call
pub mod Health
pub mod Images
pub mod Table
pub mod Sound
pub mod Effect
pub mod Theorem
pub mod Numbered
pub mod Absent
pub mod Stores
pub mod Alone
pub mod Acts
pub mod Sweep
pub mod Cases

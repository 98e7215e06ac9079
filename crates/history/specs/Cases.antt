-- A computed case: a history through both machines.
pub mod Sample

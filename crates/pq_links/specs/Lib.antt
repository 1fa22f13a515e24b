pub use Rattle.pq_gate.specs.Commuting
pub mod Wires
pub mod Places
pub mod Links
pub mod Slots
-- what only private functions and proofs speak of
pub mod Leading

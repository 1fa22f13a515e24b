pub use Rattle.pq_gate.specs.Circuit
pub mod Name
pub mod Program
pub mod Print
pub mod WellFormed

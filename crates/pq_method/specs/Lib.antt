pub use Rattle.pq_gate.specs.Circuit
pub use Rattle.pq_gate.specs.Matrix
pub use Rattle.pq_list.specs.Spliced
pub use Rattle.pq_gaps.specs.Gaps
pub use Rattle.pq_match.specs.Redex
pub use Rattle.pq_oracle.specs.Ora
pub mod Round
pub mod Opt

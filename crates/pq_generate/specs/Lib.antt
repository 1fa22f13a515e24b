pub use Rattle.pq_limits.specs.Limits
pub use Rattle.pq_text.specs.Program
pub use Rattle.pq_text.specs.WellFormed
pub mod Generated

pub use Rattle.pq_limits.specs.Limits
pub use Rattle.pq_list.specs.Roomed
pub use Rattle.pq_gaps.specs.Gaps
pub mod Ranks
pub mod Selecting
pub mod Settled
pub mod Settling

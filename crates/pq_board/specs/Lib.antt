pub use Rattle.pq_list.specs.Roomed
pub use Rattle.pq_limits.specs.Limits
pub use Rattle.pq_array.specs.Counts
pub mod Jobs
pub mod Sums
pub mod Ways
pub mod Law
pub mod Steps
pub mod Kinds
-- What private functions promise one another.
pub mod Changed

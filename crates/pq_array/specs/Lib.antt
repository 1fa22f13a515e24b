pub use Rattle.pq_list.specs.Roomed
pub mod Cells
pub mod Counts
pub mod Tree
-- What private functions promise one another.
pub mod Flags

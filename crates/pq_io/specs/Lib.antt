pub mod Faults
pub mod Memory
pub mod Sure
pub mod Adapted
pub mod Whole
pub mod Settled
pub use Rattle.pq_list.specs.Roomed

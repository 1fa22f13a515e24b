pub use Rattle.pq_limits.specs.Limits
pub mod CommandLine
pub mod Asked
pub mod Ranges

pub use Rattle.pq_text.specs.Program
pub use Rattle.pq_text.specs.WellFormed
pub use Rattle.pq_text.specs.Print
pub use Rattle.pq_read.specs.Environment
pub use Rattle.pq_read.specs.Reads
pub mod Table
pub mod Report
pub mod Room

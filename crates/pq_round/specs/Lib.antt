pub use Rattle.pq_array.specs.Cells
pub use Rattle.pq_board.specs.Law
pub use Rattle.pq_board.specs.Steps
pub use Rattle.pq_oracle.specs.Ora
pub use Rattle.pq_oracle.specs.Outcomes
pub mod Results
-- What private functions promise one another.
pub mod Desks
pub mod Workers

pub mod BoundLaws
mod ColumnLaws
mod FaultLaws
mod KindLaws
mod LaneLaws
pub mod LiftLaws
mod PairLaws
pub mod SeenLaws
mod SightLaws
mod SearchLaws
mod StateLaws
mod TableLaws
pub mod BuiltinRows

pub mod Ascending
pub mod Rising
pub mod Putting
pub mod Multiples
pub mod Selections
pub mod KeptGaps

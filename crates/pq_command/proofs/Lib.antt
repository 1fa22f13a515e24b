pub mod Numbers
pub mod Rows
pub mod Faultless
pub mod Taken
pub mod InRange

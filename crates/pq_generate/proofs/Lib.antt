pub mod Wires
pub mod Formed
pub mod Words

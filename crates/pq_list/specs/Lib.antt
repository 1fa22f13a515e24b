pub mod Roomed
pub mod Spliced

pub mod Gathering
pub mod InOrder
pub mod Working
pub mod Surveyed
pub mod Removing
pub mod Trials

pub mod Answering
pub mod Improving
pub mod OneAnswer

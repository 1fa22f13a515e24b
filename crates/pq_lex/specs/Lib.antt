pub mod Token
pub mod Front
pub mod Lex
pub mod Added
pub mod Ends
pub mod Grammar

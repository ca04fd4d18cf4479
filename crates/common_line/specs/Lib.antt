pub mod Line
pub mod Matched
